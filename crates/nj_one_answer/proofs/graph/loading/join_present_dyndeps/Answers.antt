use Rattle.nj_agreement.proofs.LoadAnswers.{present-joins-agree}
use Rattle.nj_one_answer.proofs.graph.loading.join_present_dyndeps.Goals as goal

pub returns : goal.returns
returns g c = λ entries is.
    let state = g.S.FileSource.state in
    present-joins-agree c.args.loaded c.args.same c.requires.loaded entries is (state c.args.one.now)
    (state c.join_present_dyndeps.new.source) (state c.args.other.now)
    (state c.join_present_dyndeps-2.new.source)
    c.requires.files (g.T.FileTimes.times c.args.times.now) c.requires.times c.join_present_dyndeps.result
    c.join_present_dyndeps-2.result c.join_present_dyndeps.ensures.joins
    c.join_present_dyndeps-2.ensures.joins
    c.join_present_dyndeps.ensures.origins c.join_present_dyndeps-2.ensures.origins
