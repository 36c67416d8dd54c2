use Rattle.nj_keys.proofs.KeyLaws.{all, unique}
use Rattle.nj_keys.proofs.laws.keys_law.Goals as goal

pub returns-clause-unique : goal.returns-clause-unique
returns-clause-unique c = unique

pub returns-clause-all : goal.returns-clause-all
returns-clause-all c = all
