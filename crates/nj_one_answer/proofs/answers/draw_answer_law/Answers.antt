use Rattle.nj_one_answer.proofs.DrawAnswers.{one-affected-drawing, one-draw-answer}
use Rattle.nj_one_answer.proofs.answers.draw_answer_law.Goals as goal

pub returns-clause-one : goal.returns-clause-one
returns-clause-one c = one-draw-answer

pub returns-clause-affected : goal.returns-clause-affected
returns-clause-affected c = one-affected-drawing
