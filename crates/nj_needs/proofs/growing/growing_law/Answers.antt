use Rattle.nj_needs.proofs.GrowingLaws.{rounds-append, grown-stay, grown-reach}
use Rattle.nj_needs.proofs.growing.growing_law.Goals as goal

pub returns-clause-append : goal.returns-clause-append
returns-clause-append c = rounds-append

pub returns-clause-stay : goal.returns-clause-stay
returns-clause-stay c = grown-stay

pub returns-clause-reach : goal.returns-clause-reach
returns-clause-reach c = grown-reach
