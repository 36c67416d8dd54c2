use Rattle.nj_one_answer.proofs.RunAnswers.{alike-runs-are-same}
use Rattle.nj_one_answer.proofs.runs.alike_runs_law.Goals as goal

pub returns : goal.returns
returns c = alike-runs-are-same
