use Rattle.std.proofs.Common.{◌≡◌, ◌∙◌, All, ap, subst, sym}
use Rattle.nj_edges.specs.Edges.{edge_at, inputs_of}
use Rattle.nj_graph.specs.Graph.{edges_of}
use Rattle.nj_graph.specs.Handles.{GraphEdge, GraphFile, paths_of}
use Rattle.nj_tools.specs.Inside.Collections.{Collection, inputs_of_all, with_paths}
use Rattle.nj_tools.proofs.CollectedLemmas.{with-append, with-none}
use Rattle.nj_tools.proofs.EdgeLists.{are-paths, files-in}
use Rattle.nj_tools.proofs.input_lists.needed_inputs.Goals as goal

pub edges-init : goal.edges-init
edges-init c = record {
  walk = rw c.into_iter-edge-iterator.ensures.into_iter_gives c.requires;
  graph = ap (λ (s : Collection). s.graph) c.in_ok-inputs.ensures;
  paths = rw (c.into_iter-edge-iterator.ensures.into_iter_gives, c.in_ok-inputs.ensures) (with-none _);
}

pub add_all-requires : goal.add_all-requires
add_all-requires c =
    subst (All (λ (file : GraphFile). file.graph ≡ c.edges.inputs.graph)) (sym c.inputs.ensures)
    (files-in _ _ _ (ap (λ (e : GraphEdge). e.graph) c.edge_at.ensures ∙ sym c.edges.invariant.graph))

pub edges-preserved : goal.edges-preserved
edges-preserved c =
    let edges = edges_of c.args.graph.now in
    let old = c.edges.inputs.paths in
    let left = inputs_of_all edges c.next.new.self.left in
    let inputs = are-paths _ _ _ c.inputs.ensures
    ∙ ap (λ (e : GraphEdge). inputs_of (paths_of e)) c.edge_at.ensures in
    record {
      walk = c.in-Some.ensures.steps.same.graph ∙ c.edges.invariant.walk;
      graph = c.in_ok-add_all.ensures.graph ∙ c.edges.invariant.graph;
      paths = ap (λ ps. with_paths ps left) (c.in_ok-add_all.ensures.paths ∙ ap (with_paths old) inputs)
          ∙ sym (with-append old (inputs_of (edge_at edges c.in-Some.edge.0)) left)
          ∙ ap (λ es. with_paths old (inputs_of_all edges es)) (sym c.in-Some.ensures.steps.next.first)
          ∙ c.edges.invariant.paths;
    }
