use Rattle.nj_one_answer.proofs.FoundAnswers.{one-audit-answer}
use Rattle.nj_one_answer.proofs.answers.audit_answer_law.Goals as goal

pub returns : goal.returns
returns c = one-audit-answer
