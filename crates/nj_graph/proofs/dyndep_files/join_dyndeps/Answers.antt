use Rattle.nj_graph.proofs.ChoosingLemmas.{all-chosen}
use Rattle.nj_graph.proofs.dyndep_files.join_dyndeps.Goals as goal

pub returns-clause-joins : goal.returns-clause-joins
returns-clause-joins g c = λ stated is.
    all-chosen stated c.args.loaded.files (g.S.FileSource.state c.args.source.now)
    (g.S.FileSource.state c.join_chosen.new.source)
    c.join_chosen.result (c.join_chosen.ensures.joins stated is)
