use Rattle.std.proofs.Common.{◌++◌, cond, [], sym, ap, ◌∙◌}
use Rattle.std.specs.List.{flat_map}
use Rattle.std.proofs.lemmas.List.Folds.{flat_map-map}
use Rattle.nj_graph.specs.Edges.{outputs_of}
use Rattle.nj_graph.specs.Handles.{GraphFile, edge_of, file_in, paths_of}
use Rattle.nj_ask.specs.Affected.{line_of_output}
use Rattle.nj_ask.specs.Inside.FileLines.{path_lines}
use Rattle.nj_ask.proofs.listing.push_outputs.Goals as goal

pub returns-in_ok-push_paths : goal.returns-in_ok-push_paths
returns-in_ok-push_paths c =
    let edge = edge_of c.args.edge in
    let prefix = c.args.listed.prefix.now in
    let paths = outputs_of (paths_of edge) in
    let before = c.args.lines.now.items in
    c.in_ok-push_paths.ensures
    ∙ ap (λ text. before ++ text) (ap (path_lines prefix) c.outputs.ensures
    ∙ flat_map-map (λ (file : GraphFile). line_of_output prefix file.path) (file_in edge.graph) paths
    ∙ sym (ap (λ asked. cond asked (flat_map (line_of_output prefix) paths) [])
    (sym c.is_asked_for.ensures ∙ c.if-is_asked_for.true)))
