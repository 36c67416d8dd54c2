use Rattle.std.proofs.Common.{subst}
use Rattle.nj_graph.specs.Graph.{IsGraphOf}
use Rattle.nj_discovered.specs.Discoveries.{discovery_at}
use Rattle.nj_agreement.proofs.GraphAnswers.{joins-agree, same-from}
use Rattle.nj_one_answer.proofs.graph.joining.graph_join_discovered.Goals as goal

pub returns : goal.returns
returns c = λ entries is. joins-agree (λ edge. (discovery_at c.args.found.now edge).inputs)
    entries c.args.one.origins c.join_discovered.result c.join_discovered-2.result
    (c.join_discovered.ensures.joins entries is)
    (c.join_discovered-2.ensures.joins entries (subst (λ g. IsGraphOf g entries) c.requires.same is))
    c.join_discovered.ensures.origins
    (same-from c.args.one c.args.other c.requires.same c.join_discovered-2.result
    c.join_discovered-2.ensures.origins)
