use Rattle.nj_cycles.proofs.Ranks.{falling_ranks_leave_no_cycle}
use Rattle.nj_cycles.proofs.check.acyclic_law.Goals as goal

pub returns : goal.returns
returns c = falling_ranks_leave_no_cycle
