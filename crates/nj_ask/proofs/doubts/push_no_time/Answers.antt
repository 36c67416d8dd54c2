use Rattle.std.proofs.Common.{◌++◌, Some, ap, sym, ◌∙◌, append-nil, codes}
use Rattle.std.specs.Prelude.{option_map}
use Rattle.nj_graph.specs.Edges.{first_output, outputs_of}
use Rattle.nj_graph.specs.Handles.{edge_of, file_of, paths_of}
use Rattle.nj_ask.specs.Affected.{line}
use Rattle.nj_ask.specs.DiscoveredGraphs.{no_time_line}
use Rattle.nj_ask.proofs.DoubtLemmas.{first-path, no-time-more}
use Rattle.nj_ask.proofs.doubts.push_no_time.Goals as goal

pub returns-in_ok-push_line : goal.returns-in_ok-push_line
returns-in_ok-push_line c =
    let edge = edge_of c.args.edge in
    let first = first-path edge.graph (outputs_of (paths_of edge)) (option_map file_of c.first.result)
    c.outputs.result
    c.outputs.ensures c.first.ensures in
    no-time-more c.args.lines.now.items c.push_line.new.lines.items c.path.result.now
    (first_output (paths_of edge))
    (sym first ∙ ap (λ file. option_map (λ f. f.path) (option_map file_of file)) c.in-Some.is
    ∙ ap (λ path. Some path) (sym c.path.ensures))
    (c.in_ok-push_line.ensures
    ∙ ap (λ lines. lines ++ line (codes ": its time cannot be read")) c.in_ok-extend_from_slice.ensures.items)

pub returns-in_default : goal.returns-in_default
returns-in_default c =
    let edge = edge_of c.args.edge in
    let before = c.args.lines.now.items in
    let first = first-path edge.graph (outputs_of (paths_of edge)) (option_map file_of c.first.result)
    c.outputs.result
    c.outputs.ensures c.first.ensures in
    sym (append-nil before)
    ∙ ap (λ output. before ++ no_time_line output)
    (sym (ap (λ file. option_map (λ f. f.path) (option_map file_of file)) c.in_default.is) ∙ first)
