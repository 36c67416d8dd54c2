use Rattle.nj_one_answer.proofs.TestAnswers.{one-tests-answer}
use Rattle.nj_one_answer.proofs.answers.tests_answer_law.Goals as goal

pub returns : goal.returns
returns c = one-tests-answer c.one_reading.ensures c.report_law.ensures.unique
    c.lines_law.ensures.keys
