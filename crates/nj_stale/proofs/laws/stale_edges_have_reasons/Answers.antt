use Rattle.nj_stale.proofs.BlameLemmas.{reasons}
use Rattle.nj_stale.proofs.laws.stale_edges_have_reasons.Goals as goal

pub returns : goal.returns
returns c = reasons
