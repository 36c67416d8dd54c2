use Rattle.nj_times.proofs.PathLemmas.{one_path}
use Rattle.nj_times.proofs.laws.one_path_is_critical.Goals as goal

pub returns : goal.returns
returns c = one_path
