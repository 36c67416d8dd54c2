use Rattle.nj_one_answer.proofs.StaleAnswers.{one-stale-answer}
use Rattle.nj_one_answer.proofs.answers.stale_answer_law.Goals as goal

pub returns : goal.returns
returns c = one-stale-answer c.some_state_fits.ensures
