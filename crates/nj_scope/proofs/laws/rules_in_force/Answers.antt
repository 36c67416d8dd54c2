use Rattle.nj_scope.proofs.InForce.{in_force}
use Rattle.nj_scope.proofs.laws.rules_in_force.Goals as goal

pub returns : goal.returns
returns c = in_force
