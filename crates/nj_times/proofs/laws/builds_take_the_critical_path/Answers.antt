use Rattle.nj_times.proofs.PathLemmas.{builds_take}
use Rattle.nj_times.proofs.laws.builds_take_the_critical_path.Goals as goal

pub returns : goal.returns
returns c = builds_take
