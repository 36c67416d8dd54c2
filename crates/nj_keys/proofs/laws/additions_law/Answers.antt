use Rattle.nj_keys.proofs.AdditionLaws.{tell}
use Rattle.nj_keys.proofs.ContentLaws.{tell-contents}
use Rattle.nj_keys.proofs.laws.additions_law.Goals as goal

pub returns-clause-tell : goal.returns-clause-tell
returns-clause-tell c = tell

pub returns-clause-contents : goal.returns-clause-contents
returns-clause-contents c = tell-contents
