use Rattle.std.proofs.Common.{◌++◌, [], unwrap_or, ap, ◌∙◌}
use Rattle.std.specs.Prelude.{codes}
use Rattle.std.proofs.lemmas.Result.{on_ok_weaker}
use Rattle.nj_graph.specs.Edges.{first_output}
use Rattle.nj_graph.specs.Handles.{edge_of, paths_of}
use Rattle.nj_ask.specs.Quotes.{quoted}
use Rattle.nj_ask.specs.Drawings.{more_text}
use Rattle.nj_ask.proofs.DrawnLemmas.{three-parts}
use Rattle.nj_ask.proofs.node_lines.push_point.Goals as goal

pub returns : goal.returns
returns c =
    let path = unwrap_or (first_output (paths_of (edge_of c.args.edge))) [] in
    let one = c.extend_from_slice.new.self.items in
    on_ok_weaker c.push_more.result
    (three-parts c.args.text.now.items (codes "shape=point, tooltip=") (quoted path)
    (more_text (codes ", xlabel=\"") c.args.more (codes "\"")) one c.push_quoted.new.out.items
    c.push_more.new.text.items c.in_ok-extend_from_slice.ensures.items
    (c.in_ok-push_quoted.ensures ∙ ap (λ name. one ++ quoted name) c.first_output.ensures))
    c.push_more.ensures
