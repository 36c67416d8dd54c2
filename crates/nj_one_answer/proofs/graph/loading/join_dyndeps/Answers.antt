use Rattle.nj_agreement.proofs.LoadAnswers.{joins-agree}
use Rattle.nj_one_answer.proofs.graph.loading.join_dyndeps.Goals as goal

pub returns : goal.returns
returns g c = λ entries is.
    let state = g.S.FileSource.state in
    joins-agree c.args.loaded c.args.same c.requires.loaded entries is (state c.args.one.now)
    (state c.join_dyndeps.new.source) (state c.args.other.now) (state c.join_dyndeps-2.new.source)
    c.requires.files
    c.join_dyndeps.result c.join_dyndeps-2.result c.join_dyndeps.ensures.joins c.join_dyndeps-2.ensures.joins
    c.join_dyndeps.ensures.origins c.join_dyndeps-2.ensures.origins
