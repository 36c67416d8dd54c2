use Rattle.std.proofs.Common.{◌∙◌}
use Rattle.nj_edges.specs.Edges.{edge_at}
use Rattle.nj_stale.proofs.FoundLemmas.{judged, newest_held}
use Rattle.nj_stale.proofs.reasons.judge.Goals as goal

pub returns : goal.returns
returns c =
    let graph = c.args.graph.now in
    let times = c.args.times.now in
    let reasons = c.args.reasons.now in
    let lent = c.args.lent.now in
    let newest = c.newest_of-newest.ensures
    ∙ newest_held graph times c.requires.distinct c.requires.known.time_count reasons lent
    c.counted_inputs.result.now (edge_at graph.edges c.args.edge.0) c.counted_inputs.ensures.files in
    judged graph c.args.facts.now times c.args.log.now.lines reasons lent c.args.edge.0
    c.reason_of-reason.result
    c.lent_by.result c.newest_of-newest.result c.is_phony.result newest
    (c.reason_of-reason.ensures lent newest)
    c.is_phony.ensures c.lent_by.ensures
