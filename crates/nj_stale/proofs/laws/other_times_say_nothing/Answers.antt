use Rattle.nj_stale.proofs.NeededLemmas.{other_times}
use Rattle.nj_stale.proofs.laws.other_times_say_nothing.Goals as goal

pub returns : goal.returns
returns c = other_times
