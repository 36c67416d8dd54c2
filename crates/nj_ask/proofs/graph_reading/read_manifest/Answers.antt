use Rattle.nj_questions.specs.Questions.{asked_graph}
use Rattle.nj_ask.proofs.GraphLemmas.{main-lacks}
use Rattle.nj_ask.proofs.graph_reading.read_manifest.Goals as goal

pub returns-in-Err-clause-lacks : goal.returns-in-Err-clause-lacks
returns-in-Err-clause-lacks g c =
    main-lacks (asked_graph c.args.asked.now) (g.T.FileTimes.times c.args.times.now) c.deref.result.now
    (g.S.FileSource.state c.args.files.now) (g.S.FileSource.state c.load_main.new.files) c.in-Err.failure
    c.deref.ensures
    c.in-Err.ensures.lacks
