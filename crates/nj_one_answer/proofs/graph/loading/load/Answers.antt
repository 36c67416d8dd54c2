use Rattle.std.proofs.Common.{[]}
use Rattle.nj_graph.specs.Loads.{main_reached}
use Rattle.nj_agreement.proofs.LoadAnswers.{loads-agree, main-by-paths, main-kept}
use Rattle.nj_one_answer.proofs.graph.loading.load.Goals as goal

pub returns : goal.returns
returns g c =
    let main = c.args.main.now in
    let state = g.S.FileSource.state in
    loads-agree (main_reached main) (main-kept main) (main-by-paths main) main [] (state c.args.one.now)
    (state c.load.new.source) (state c.args.other.now) (state c.load-2.new.source) c.requires c.load.result
    c.load-2.result c.load.ensures.loads c.load-2.ensures.loads c.load.ensures.main c.load-2.ensures.main
