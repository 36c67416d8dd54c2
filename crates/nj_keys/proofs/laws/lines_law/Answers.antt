use Rattle.nj_keys.proofs.KeyLines.{one-list}
use Rattle.nj_keys.proofs.LineLaws.{join, one}
use Rattle.nj_keys.proofs.laws.lines_law.Goals as goal

pub returns-clause-unique : goal.returns-clause-unique
returns-clause-unique c = one

pub returns-clause-join : goal.returns-clause-join
returns-clause-join c = join

pub returns-clause-keys : goal.returns-clause-keys
returns-clause-keys c = one-list
