use Rattle.nj_one_answer.proofs.QuestionAnswers.{one-answer}
use Rattle.nj_one_answer.proofs.answers.answer_law.Goals as goal

pub returns : goal.returns
returns c = one-answer c.affected_answer_law.ensures c.audit_answer_law.ensures c.draw_answer_law.ensures.one
    c.json_answer_law.ensures c.keys_answer_law.ensures c.stale_answer_law.ensures c.tests_answer_law.ensures
    c.times_answer_law.ensures c.why_answer_law.ensures
