use Rattle.std.proofs.Common.{◌++◌, [], ap, ◌∙◌}
use Rattle.std.specs.Prelude.{codes}
use Rattle.nj_graph.specs.Graph.{rule_name}
use Rattle.nj_graph.specs.Handles.{detail_of_edge, edge_of}
use Rattle.nj_ask.specs.Quotes.{escapes}
use Rattle.nj_ask.specs.Drawings.{more_text}
use Rattle.nj_ask.proofs.DrawnLemmas.{four-parts}
use Rattle.nj_ask.proofs.node_lines.push_ellipse.Goals as goal

pub returns : goal.returns
returns c =
    let edge = edge_of c.args.edge in
    let rule = rule_name edge.graph.declarations.rules (detail_of_edge edge).rule in
    let one = c.extend_from_slice.new.self.items in
    four-parts c.args.text.now.items (codes "shape=ellipse, label=\"") (escapes rule)
    (more_text (codes "\\n") c.args.more []) (codes "\"") one c.push_escapes.new.out.items
    c.push_more.new.text.items c.push.new.self.items c.in_ok-extend_from_slice.ensures.items
    (c.in_ok-push_escapes.ensures ∙ ap (λ name. one ++ escapes name) c.rule_of.ensures)
    c.in_ok-push_more.ensures c.in_ok-push.ensures.items
