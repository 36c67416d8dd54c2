use Rattle.nj_stale.proofs.StateLemmas.{some_state}
use Rattle.nj_stale.proofs.laws.some_state_fits.Goals as goal

pub returns : goal.returns
returns c = some_state
