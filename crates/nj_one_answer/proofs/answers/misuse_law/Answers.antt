use Rattle.nj_one_answer.proofs.GivenAnswers.{misused-apart, one-misuse}
use Rattle.nj_one_answer.proofs.answers.misuse_law.Goals as goal

pub returns-clause-line : goal.returns-clause-line
returns-clause-line c = one-misuse c.good_patterns_are_read.ensures c.one_fault.ensures

pub returns-clause-apart : goal.returns-clause-apart
returns-clause-apart c = misused-apart c.good_patterns_are_read.ensures
