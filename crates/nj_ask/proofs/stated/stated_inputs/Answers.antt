use Rattle.std.proofs.Common.{map, slice_get, take, unwrap_or, ap, ◌∙◌}
use Rattle.nj_edges.specs.Edges.{edge_at}
use Rattle.nj_names.specs.Files.{path_at}
use Rattle.nj_ask.proofs.StatedLemmas.{count-is, paths-are, take-mapped}
use Rattle.nj_ask.proofs.stated.stated_inputs.Goals as goal

pub returns-clause-paths : goal.returns-clause-paths
returns-clause-paths c =
    let g = c.args.graph.now in
    let inputs = c.implicit_input_files-inputs.result.now in
    let names = (edge_at g.edges c.args.edge.0).implicit_inputs in
    let are = c.implicit_input_files-inputs.ensures.files in
    let count = c.stated_count.result in
    ap (map (path_at g.files)) c.first_files.ensures
    ∙ take-mapped (path_at g.files) count inputs
    ∙ ap (take count) (paths-are g.files inputs names are)
    ∙ ap (λ n. take n names) (c.stated_count.ensures
    ∙ ap (unwrap_or (slice_get c.args.stated.now c.args.edge.0))
    (count-is g.files inputs names are))
