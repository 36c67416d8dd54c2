use Rattle.std.proofs.Common.{option_map, ap, sym, ◌∙◌}
use Rattle.std.specs.Prelude.{option_and_then}
use Rattle.nj_edges.specs.Edges.{edge_at, inputs_of, maker_of}
use Rattle.nj_names.specs.Files.{path_at}
use Rattle.nj_ask.proofs.stale_objects.maker_of_input.Goals as goal

pub returns-in-Some : goal.returns-in-Some
returns-in-Some c =
    let g = c.args.graph.now in
    c.maker.ensures.maker
    ∙ ap (option_and_then (maker_of g.edges)) (ap (option_map (path_at g.files)) (sym c.in-Some.is)
    ∙ c.file_at.ensures.path (inputs_of (edge_at g.edges c.args.edge.0)) c.inputs.ensures.files)

pub returns-in-None : goal.returns-in-None
returns-in-None c =
    let g = c.args.graph.now in
    ap (option_and_then (maker_of g.edges)) (ap (option_map (path_at g.files)) (sym c.in-None.is)
    ∙ c.file_at.ensures.path (inputs_of (edge_at g.edges c.args.edge.0)) c.inputs.ensures.files)
