use Rattle.nj_needs.proofs.OrderLaws.{commands-reached, commands-once, commands-after_needs}
use Rattle.nj_needs.proofs.laws.order_law.Goals as goal

pub returns-clause-reached : goal.returns-clause-reached
returns-clause-reached c = commands-reached

pub returns-clause-once : goal.returns-clause-once
returns-clause-once c = commands-once

pub returns-clause-after : goal.returns-clause-after
returns-clause-after c = commands-after_needs
