use Rattle.nj_one_answer.proofs.KnownAnswers.{same-answers}
use Rattle.nj_one_answer.proofs.answers.known_answer_law.Goals as goal

pub returns : goal.returns
returns c = same-answers
