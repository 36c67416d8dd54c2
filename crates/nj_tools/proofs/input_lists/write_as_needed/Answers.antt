use Rattle.std.proofs.Common.{◌≡◌, ◌++◌, ◌∙◌, [], All, ap, refl, rules, subst, sym}
use Rattle.nj_edges.specs.Edges.{edge_at, inputs_of}
use Rattle.nj_needs.specs.Walks.{WalkState}
use Rattle.nj_graph.specs.Graph.{edges_of}
use Rattle.nj_graph.specs.Handles.{GraphEdge, GraphFile, paths_of}
use Rattle.nj_tools.specs.Inside.Collections.{HasExactly, inputs_of_all, new_paths, with_paths}
use Rattle.nj_tools.specs.Inside.Pieces.{printed_text}
use Rattle.nj_tools.proofs.CollectedLemmas.{new-none}
use Rattle.nj_tools.proofs.EdgeLists.{are-paths, files-in}
use Rattle.nj_tools.proofs.ListingLemmas.{printed-split}
use Rattle.nj_tools.proofs.OutputLemmas.{adds_block, leaves_all, leaves_next, leaves_none, stops-with}
use Rattle.nj_tools.proofs.OutputLemmas.{stops_block}
use Rattle.nj_tools.proofs.OutputLemmas.{stops_memory, stops_next}
use Rattle.nj_tools.proofs.input_lists.write_as_needed.Goals as goal

pub edges-init : goal.edges-init
edges-init g c =
    let begun = c.into_iter-edge-iterator.ensures.into_iter_gives in
    record {
      walk = rw begun c.requires;
      graph = c.in_ok-written.ensures.graph;
      same = search rules;
      earlier = [];
      has = c.in_ok-written.ensures.none;
      left = leaves_all _ _ _ (ap (λ (w : WalkState). printed_text c.args.style (new_paths []
          (inputs_of_all (edges_of c.args.graph.now) w.left))) begun
          ∙ ap (printed_text c.args.style) (new-none _));
    }

pub append_new_files-requires : goal.append_new_files-requires
append_new_files-requires g c =
    subst (All (λ (file : GraphFile). file.graph ≡ c.edges.written.graph)) (sym c.inputs.ensures)
    (files-in _ _ _ (ap (λ (e : GraphEdge). e.graph) c.edge_at.ensures ∙ sym c.edges.invariant.graph))

pub returns-in_err-append_new_files-clause-text : goal.returns-in_err-append_new_files-clause-text
returns-in_err-append_new_files-clause-text g c =
    stops-with c.from_residual-in_err-append_new_files.result
    c.from_residual-in_err-append_new_files.ensures.1
    (stops_memory c.edges.invariant.left _ refl)

pub edges-preserved : goal.edges-preserved
edges-preserved g c =
    let i = c.edges.invariant in
    let style = c.args.style in
    let edges = edges_of c.args.graph.now in
    let first = inputs_of (edge_at edges c.in-Some.edge.0) in
    let left = inputs_of_all edges c.next.new.self.left in
    let inputs = are-paths _ _ _ c.inputs.ensures
    ∙ ap (λ (e : GraphEdge). inputs_of (paths_of e)) c.edge_at.ensures in
    let split = ap (λ es. printed_text style (new_paths i.earlier (inputs_of_all edges es)))
    c.in-Some.ensures.steps.next.first ∙ printed-split style i.earlier first left in
    let text = c.in_ok-append_new_files.ensures.text i.earlier i.has
    ∙ ap (λ ps. c.edges.out.pending.now.items ++ printed_text style (new_paths i.earlier ps)) inputs in
    record {
      walk = c.in-Some.ensures.steps.same.graph ∙ i.walk;
      graph = c.in_ok-append_new_files.ensures.graph ∙ i.graph;
      same = search rules;
      earlier = with_paths i.earlier first;
      has = subst (λ ps. HasExactly c.append_new_files.new.written (with_paths i.earlier ps)) inputs
          (c.in_ok-append_new_files.ensures.more i.earlier i.has);
      left = leaves_next _ _ i.left split (adds_block _ refl text c.in_ok-write_block.ensures.text);
    }

pub returns-in_err-write_block-clause-text : goal.returns-in_err-write_block-clause-text
returns-in_err-write_block-clause-text g c =
    let i = c.edges.invariant in
    let style = c.args.style in
    let edges = edges_of c.args.graph.now in
    let first = inputs_of (edge_at edges c.in-Some.edge.0) in
    let left = inputs_of_all edges c.next.new.self.left in
    let inputs = are-paths _ _ _ c.inputs.ensures
    ∙ ap (λ (e : GraphEdge). inputs_of (paths_of e)) c.edge_at.ensures in
    let split = ap (λ es. printed_text style (new_paths i.earlier (inputs_of_all edges es)))
    c.in-Some.ensures.steps.next.first ∙ printed-split style i.earlier first left in
    let text = c.in_ok-append_new_files.ensures.text i.earlier i.has
    ∙ ap (λ ps. c.edges.out.pending.now.items ++ printed_text style (new_paths i.earlier ps)) inputs in
    stops-with c.from_residual-in_err-write_block.result c.from_residual-in_err-write_block.ensures.1
    (stops_next _ _ i.left split (stops_block _ refl text c.in_err-write_block.ensures.text))

pub returns-clause-text : goal.returns-clause-text
returns-clause-text g c =
    leaves_none c.edges.invariant.left (ap
    (λ es. printed_text c.args.style (new_paths c.edges.invariant.earlier
    (inputs_of_all (edges_of c.args.graph.now) es))) c.in-None.ensures.steps.next.none)
