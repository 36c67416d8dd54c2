use Rattle.nj_one_answer.proofs.ReportAnswers.{one-affected-answer}
use Rattle.nj_one_answer.proofs.answers.affected_answer_law.Goals as goal

pub returns : goal.returns
returns c = one-affected-answer c.one_reading.ensures c.report_law.ensures.unique
    c.lines_law.ensures.keys
