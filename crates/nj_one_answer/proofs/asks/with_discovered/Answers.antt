use Rattle.std.proofs.Common.{subst}
use Rattle.nj_graph.specs.Graph.{IsGraphOf}
use Rattle.nj_one_answer.proofs.JoinedAnswers.{discovered-agree}
use Rattle.nj_one_answer.proofs.asks.with_discovered.Goals as goal

pub returns : goal.returns
returns g c = λ entries is quiet quiet2.
    let state = g.S.FileSource.state in
    discovered-agree (state c.args.one.now) (state c.with_discovered.new.files) (state c.args.other.now)
    (state c.with_discovered-2.new.files) c.requires.files quiet quiet2
    (g.T.FileTimes.times c.args.times.now) c.requires.times c.args.log.now entries
    c.with_discovered.result c.with_discovered-2.result (c.with_discovered.ensures.joins entries is)
    (c.with_discovered-2.ensures.joins entries
    (subst (λ k. IsGraphOf k entries) c.requires.graph is))
