use Rattle.nj_edges.proofs.DirtyLemmas.{other-edges-are-untouched}
use Rattle.nj_edges.proofs.dirty.dirty_law.Goals as goal

pub returns : goal.returns
returns c = other-edges-are-untouched
