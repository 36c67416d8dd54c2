use Rattle.nj_times.proofs.RuleLemmas.{none_slower}
use Rattle.nj_times.proofs.laws.none_is_slower.Goals as goal

pub returns : goal.returns
returns c = none_slower
