use Rattle.nj_agreement.proofs.DiscoverAnswers.{searches-agree}
use Rattle.nj_one_answer.proofs.graph.joining.graph_discover.Goals as goal

pub returns : goal.returns
returns g c = λ entries is quiet quiet2.
    let state = g.S.FileSource.state in
    searches-agree (state c.args.one.now) (state c.discover.new.files) (state c.args.other.now)
    (state c.discover-2.new.files) c.requires.files quiet quiet2 (g.T.FileTimes.times c.args.times.now)
    c.requires.times c.args.log.now entries c.discover.result c.discover-2.result
    (c.discover.ensures.discovered entries is) (c.discover-2.ensures.discovered entries is)
