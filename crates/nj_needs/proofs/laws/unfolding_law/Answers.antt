use Rattle.nj_needs.proofs.Unfolding.{fuel-is_enough, edges-come_after_makers}
use Rattle.nj_needs.proofs.laws.unfolding_law.Goals as goal

pub returns-clause-fuel : goal.returns-clause-fuel
returns-clause-fuel c = fuel-is_enough

pub returns-clause-edges : goal.returns-clause-edges
returns-clause-edges c = edges-come_after_makers
