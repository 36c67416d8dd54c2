use Rattle.nj_keys.proofs.EdgeLaws.{agree, alike, tell}
use Rattle.nj_keys.proofs.laws.edges_law.Goals as goal

pub returns-clause-agree : goal.returns-clause-agree
returns-clause-agree c = agree

pub returns-clause-same : goal.returns-clause-same
returns-clause-same c = alike

pub returns-clause-keys : goal.returns-clause-keys
returns-clause-keys c = tell
