use Rattle.nj_one_answer.proofs.TimesAnswers.{one-times-answer}
use Rattle.nj_one_answer.proofs.answers.times_answer_law.Goals as goal

pub returns : goal.returns
returns c = one-times-answer c.one_path_is_critical.ensures c.one_list_is_slowest.ensures
