use Rattle.nj_times.proofs.OrderedLemmas.{one_slowest}
use Rattle.nj_times.proofs.laws.one_list_is_slowest.Goals as goal

pub returns : goal.returns
returns c = one_slowest
