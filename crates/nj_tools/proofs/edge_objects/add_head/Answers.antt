use Rattle.std.proofs.Common.{ap, codes, ◌∙◌}
use Rattle.std.proofs.lemmas.Result.{on_ok_weaker}
use Rattle.std.specs.Fmt.{decimal}
use Rattle.json.specs.Json.{number}
use Rattle.nj_edges.specs.Edges.{edge_at}
use Rattle.nj_statements.specs.Built.{detail_at}
use Rattle.nj_graph.proofs.Stated.{graph-details, graph-edges}
use Rattle.nj_tools.specs.Inside.ObjectTexts.{and_member}
use Rattle.nj_tools.proofs.EdgeObjectLemmas.{head-added}
use Rattle.nj_tools.proofs.edge_objects.add_head.Goals as goal

pub returns : goal.returns
returns c entries graph =
    let edge = c.args.edge.number.0 in
    let place = c.place.result in
    on_ok_weaker c.add_bool.result
    (λ is.
    head-added entries edge c.args.object.now c.add_number.new.self c.add_place.new.self c.add_string.new.self
    c.add_bool.new.self
    place.file.now c.rule_name.result.now place.spot c.is_phony.result
    (c.place.ensures.file ∙ ap (λ ds. (detail_at ds edge).file) (graph-details graph))
    (c.place.ensures.spot ∙ ap (λ ds. (detail_at ds edge).spot) (graph-details graph))
    (c.rule_name.ensures entries graph)
    (c.is_phony.ensures ∙ ap (λ edges. (edge_at edges edge).is_phony) (graph-edges graph))
    (c.in_ok-add_number.ensures
    ∙ ap (λ n. and_member c.args.object.now (codes "edge", number (decimal n))) c.number.ensures.number)
    c.in_ok-add_place.ensures c.in_ok-add_string.ensures is)
    c.add_bool.ensures
