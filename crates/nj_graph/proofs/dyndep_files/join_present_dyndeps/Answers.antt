use Rattle.nj_graph.proofs.ChoosingLemmas.{present-chosen}
use Rattle.nj_graph.proofs.dyndep_files.join_present_dyndeps.Goals as goal

pub returns-clause-joins : goal.returns-clause-joins
returns-clause-joins g c = λ stated is.
    present-chosen stated c.args.loaded.files (g.S.FileSource.state c.args.source.now)
    (g.S.FileSource.state c.join_chosen.new.source)
    c.join_chosen.result (g.T.FileTimes.times c.args.times.now) (c.join_chosen.ensures.joins stated is)
