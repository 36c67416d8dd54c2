use Rattle.std.proofs.Common.{◌≡◌, ◌∙◌, None, Some, ap, slice_get, sym, take}
use Rattle.std.proofs.lemmas.List.{take-map}
use Rattle.nj_graph.specs.Edges.{edge_at}
use Rattle.nj_graph.specs.Graph.{edges_of}
use Rattle.nj_graph.specs.Handles.{edge_of, file_in, files_in}
use Rattle.nj_keys.proofs.StatedLemmas.{implicit-all, implicit-counted}
use Rattle.nj_keys.proofs.fields.stated_inputs.Goals as goal

pub returns-in-Some : goal.returns-in-Some
returns-in-Some c =
    let edge = edge_of c.args.edge in
    let edges = edges_of edge.graph in
    let counts = c.args.counts.now in
    let count = c.in-Some.count in
    let there : slice_get counts edge.number ≡ Some count = sym c.in-Some.ensures in
    c.split_at.ensures.first ∙ ap (take count) c.implicit_inputs-inputs.ensures
    ∙ take-map (file_in edge.graph) count (edge_at edges edge.number).implicit_inputs
    ∙ ap (files_in edge.graph) (sym (implicit-counted counts edges edge.number count there))

pub returns-in-None : goal.returns-in-None
returns-in-None c =
    let edge = edge_of c.args.edge in
    let edges = edges_of edge.graph in
    let counts = c.args.counts.now in
    let there : slice_get counts edge.number ≡ None = sym c.in-None.ensures in
    c.implicit_inputs-inputs.ensures
    ∙ ap (files_in edge.graph) (sym (implicit-all counts edges edge.number there))
