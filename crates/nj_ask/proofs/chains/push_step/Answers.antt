use Rattle.std.proofs.Common.{◌++◌, ap, ◌∙◌}
use Rattle.std.specs.Prelude.{codes}
use Rattle.std.proofs.lemmas.Result.{on_ok_weaker}
use Rattle.nj_graph.specs.declared.Spot.{Spot}
use Rattle.nj_graph.specs.Graph.{rule_name}
use Rattle.nj_graph.specs.Handles.{detail_of_edge, edge_of, file_of}
use Rattle.nj_ask.specs.Chains.{kind_end, place_text}
use Rattle.nj_ask.proofs.ChainLemmas.{seven-parts}
use Rattle.nj_ask.proofs.chains.push_step.Goals as goal

pub returns : goal.returns
returns c =
    let edge = edge_of c.args.edge in
    let detail = detail_of_edge edge in
    let place = c.place.result in
    let old = c.args.lines.now.items in
    on_ok_weaker c.push_kind.result (seven-parts old
    (place_text detail.file detail.spot.line detail.spot.column)
    (rule_name edge.graph.declarations.rules detail.rule) (codes ": ") (file_of c.args.from).path
    (codes " needs ") (file_of c.args.input).path (kind_end c.args.kind c.args.is_discovered)
    c.push_place.new.lines.items
    c.extend_from_slice.new.self.items c.extend_from_slice-2.new.self.items
    c.extend_from_slice-3.new.self.items c.extend_from_slice-4.new.self.items
    c.extend_from_slice-5.new.self.items c.push_kind.new.lines.items
    (c.in_ok-push_place.ensures
    ∙ ap (λ file. old ++ place_text file place.spot.line place.spot.column) c.place.ensures.file
    ∙ ap (λ (spot : Spot). old ++ place_text detail.file spot.line spot.column) c.place.ensures.spot)
    (c.in_ok-extend_from_slice.ensures.items
    ∙ ap (λ rule. c.push_place.new.lines.items ++ rule) c.rule_of.ensures)
    c.in_ok-extend_from_slice-2.ensures.items
    (c.in_ok-extend_from_slice-3.ensures.items
    ∙ ap (λ path. c.extend_from_slice-2.new.self.items ++ path) c.path.ensures)
    c.in_ok-extend_from_slice-4.ensures.items
    (c.in_ok-extend_from_slice-5.ensures.items
    ∙ ap (λ path. c.extend_from_slice-4.new.self.items ++ path) c.path-2.ensures))
    c.push_kind.ensures
