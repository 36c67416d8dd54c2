use Rattle.std.proofs.Common.{◌<◌, ◌++◌, ℕ, All, List, [], length, map, take, get_or, slice_get, ap, sym}
use Rattle.std.proofs.Common.{subst}
use Rattle.std.proofs.Common.{◌∙◌}
use Rattle.std.specs.List.{flat_map}
use Rattle.std.proofs.lemmas.List.{append_assoc, flat_map_more, map-append, take_all}
use Rattle.std.proofs.lemmas.List.Elements.{All-append}
use Rattle.nj_graph.specs.declared.EdgeNo.{EdgeNo}
use Rattle.nj_graph.specs.declared.FileNo.{FileNo}
use Rattle.nj_graph.specs.Edges.{edge_at, outputs_of}
use Rattle.nj_graph.specs.Files.{path_at}
use Rattle.nj_graph.specs.Graph.{edges_of, files_of}
use Rattle.nj_reached.specs.GraphChanges.{outputs_at}
use Rattle.nj_ask.specs.Inside.Reached.{edge_numbers}
use Rattle.nj_ask.proofs.LineLemmas.{files-paths, mapped-more}
use Rattle.nj_ask.proofs.new_commands.with_outputs.Goals as goal

pub edges-preserved : goal.edges-preserved
edges-preserved c =
    let g = c.args.graph.now in
    let edges = c.args.edges.now in
    let i = c.edges.edge-index in
    let none : EdgeNo = record { 0 = 0 } in
    let outputs = λ (edge : ℕ). outputs_of (edge_at (edges_of g) edge) in
    let old = c.edges.all.items in
    let new = c.outputs.result.now in
    let first = map (path_at (files_of g)) c.args.files.now in
    let before = edge_numbers (take i edges) in
    let next = (get_or edges i none).0 in
    let paths = files-paths (λ file. slice_get (files_of g) file.0) new (outputs next)
    (rw c.deref.ensures at c.outputs.ensures.files) in
    record {
      paths = ap (map (path_at (files_of g))) c.in_ok-extend_from_slice.ensures.items
          ∙ map-append (path_at (files_of g)) old new
          ∙ ap (λ ps. ps ++ map (path_at (files_of g)) new) c.edges.invariant.paths
          ∙ ap (λ ps. (first ++ outputs_at (edges_of g) before) ++ ps) paths
          ∙ append_assoc first (outputs_at (edges_of g) before) (outputs next)
          ∙ ap (λ ps. first ++ ps) (flat_map_more outputs [] before next)
          ∙ ap (λ ns. first ++ flat_map outputs ns)
          (mapped-more (λ (e : EdgeNo). e.0) edges i none c.edges-test.true);
      known = subst (All (λ (f : FileNo). f.0 < length (files_of g)))
          (sym c.in_ok-extend_from_slice.ensures.items)
          (All-append (λ (f : FileNo). f.0 < length (files_of g)) old new c.edges.invariant.known
          (rw c.deref.ensures at c.outputs.ensures.known));
    }

pub returns : goal.returns
returns c =
    let g = c.args.graph.now in
    record {
      paths = c.edges.invariant.paths
          ∙ ap (λ (edges : List EdgeNo). map (path_at (files_of g)) c.args.files.now
          ++ outputs_at (edges_of g) (edge_numbers edges))
          (take_all c.edges.edge-index c.args.edges.now c.edges-test.false);
      known = c.edges.invariant.known;
    }
