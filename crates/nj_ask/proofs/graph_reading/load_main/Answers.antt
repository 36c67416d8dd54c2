use Rattle.nj_ask.proofs.GraphLemmas.{main-fails}
use Rattle.nj_ask.proofs.graph_reading.load_main.Goals as goal

pub returns-in-Err-clause-lacks : goal.returns-in-Err-clause-lacks
returns-in-Err-clause-lacks g c =
    main-fails c.args.main.now (g.S.FileSource.state c.args.files.now)
    (g.S.FileSource.state c.load.new.source)
    c.of_fault.result c.in-Err.fault c.in-Err.ensures.loads c.of_fault.ensures
