use Rattle.nj_one_answer.proofs.PageAnswers.{one-keys-answer}
use Rattle.nj_one_answer.proofs.answers.keys_answer_law.Goals as goal

pub returns : goal.returns
returns c = one-keys-answer c.lines_law.ensures.keys
