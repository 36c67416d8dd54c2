use Rattle.std.proofs.Common.{◌<◌, ◌++◌, All, [], length, map, take, get_or, slice_get, ap, sym, subst, ◌∙◌}
use Rattle.std.specs.List.{flat_map}
use Rattle.std.proofs.lemmas.List.{flat_map_more, map-append, take_all, take_more}
use Rattle.std.proofs.lemmas.List.Elements.{All-append}
use Rattle.nj_graph.specs.declared.EdgeNo.{EdgeNo}
use Rattle.nj_graph.specs.declared.FileNo.{FileNo}
use Rattle.nj_graph.specs.Edges.{edge_at, inputs_of}
use Rattle.nj_graph.specs.Files.{path_at}
use Rattle.nj_graph.specs.Graph.{edges_of, files_of}
use Rattle.nj_ask.proofs.LineLemmas.{files-paths}
use Rattle.nj_ask.proofs.manifest.inputs_of_all.Goals as goal

pub edges-preserved : goal.edges-preserved
edges-preserved c =
    let g = c.args.graph.now in
    let edges = c.args.edges.now in
    let i = c.edges.edge-index in
    let none : EdgeNo = record { 0 = 0 } in
    let inputs = λ (edge : EdgeNo). inputs_of (edge_at (edges_of g) edge.0) in
    let old = c.edges.files.items in
    let new = c.inputs.result.now in
    let paths = files-paths (λ file. slice_get (files_of g) file.0) new (inputs (get_or edges i none))
    (rw c.deref.ensures at c.inputs.ensures.files) in
    record {
      paths = ap (map (path_at (files_of g))) c.in_ok-extend_from_slice.ensures.items
          ∙ map-append (path_at (files_of g)) old new
          ∙ ap (λ ps. ps ++ map (path_at (files_of g)) new) c.edges.invariant.paths
          ∙ ap (λ ps. flat_map inputs (take i edges) ++ ps) paths
          ∙ flat_map_more inputs [] (take i edges) (get_or edges i none)
          ∙ ap (flat_map inputs) (sym (take_more edges i none c.edges-test.true));
      known = subst (All (λ (f : FileNo). f.0 < length (files_of g)))
          (sym c.in_ok-extend_from_slice.ensures.items)
          (All-append (λ (f : FileNo). f.0 < length (files_of g)) old new c.edges.invariant.known
          (rw c.deref.ensures at c.inputs.ensures.known));
    }

pub returns : goal.returns
returns c =
    let g = c.args.graph.now in
    record {
      paths = c.edges.invariant.paths
          ∙ ap (flat_map (λ (edge : EdgeNo). inputs_of (edge_at (edges_of g) edge.0)))
          (take_all c.edges.edge-index c.args.edges.now c.edges-test.false);
      known = c.edges.invariant.known;
    }
