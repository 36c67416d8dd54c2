use Rattle.nj_ask.proofs.DrawnLaws.{ends-drawn, nodes-distinct, nodes-limited}
use Rattle.nj_ask.proofs.NeededLaws.{needed-drawn}
use Rattle.nj_ask.proofs.drawing_laws.drawing_law.Goals as goal

pub returns-clause-distinct : goal.returns-clause-distinct
returns-clause-distinct c = nodes-distinct

pub returns-clause-limited : goal.returns-clause-limited
returns-clause-limited c = nodes-limited

pub returns-clause-ends : goal.returns-clause-ends
returns-clause-ends c = ends-drawn

pub returns-clause-needed : goal.returns-clause-needed
returns-clause-needed c = needed-drawn
