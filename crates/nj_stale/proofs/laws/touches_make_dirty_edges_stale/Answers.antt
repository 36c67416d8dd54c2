use Rattle.nj_stale.proofs.TouchLemmas.{touches}
use Rattle.nj_stale.proofs.laws.touches_make_dirty_edges_stale.Goals as goal

pub returns : goal.returns
returns c = touches
