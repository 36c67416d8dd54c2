use Rattle.nj_one_answer.proofs.JsonAnswers.{one-json-answer}
use Rattle.nj_one_answer.proofs.answers.json_answer_law.Goals as goal

pub returns : goal.returns
returns c = one-json-answer
