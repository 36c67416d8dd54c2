use Rattle.nj_one_answer.proofs.WhyAnswers.{one-why-answer}
use Rattle.nj_one_answer.proofs.answers.why_answer_law.Goals as goal

pub returns : goal.returns
returns c = one-why-answer
