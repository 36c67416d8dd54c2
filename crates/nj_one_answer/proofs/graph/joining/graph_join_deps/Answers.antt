use Rattle.std.proofs.Common.{subst}
use Rattle.nj_graph.specs.Graph.{IsGraphOf}
use Rattle.nj_graph.specs.DepsLogs.{inputs_logged, number_logged}
use Rattle.nj_agreement.proofs.GraphAnswers.{joins-agree, same-from}
use Rattle.nj_one_answer.proofs.graph.joining.graph_join_deps.Goals as goal

pub returns : goal.returns
returns c = λ entries is. joins-agree (λ edge. inputs_logged c.args.log.now
    (number_logged c.args.log.now entries edge))
    entries c.args.one.origins c.join_deps.result c.join_deps-2.result (c.join_deps.ensures.joins entries is)
    (c.join_deps-2.ensures.joins entries (subst (λ g. IsGraphOf g entries) c.requires is))
    c.join_deps.ensures.origins (same-from c.args.one c.args.other c.requires c.join_deps-2.result
    c.join_deps-2.ensures.origins)
