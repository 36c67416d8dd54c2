use Rattle.nj_args.proofs.RunMarks.{run_marks-apart}
use Rattle.nj_args.proofs.laws.run_marks_law.Goals as goal

pub returns : goal.returns
returns c = run_marks-apart
