use Rattle.std.proofs.Common.{rules}
use Rattle.nj_faults.proofs.fault.owned.Goals as goal

pub returns : goal.returns
returns c = c.try_map.ensures (λ key. key.now) (λ name made p. search rules)
