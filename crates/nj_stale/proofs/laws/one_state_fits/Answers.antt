use Rattle.nj_stale.proofs.StateLemmas.{one_state}
use Rattle.nj_stale.proofs.laws.one_state_fits.Goals as goal

pub returns : goal.returns
returns c = one_state
