use Rattle.nj_needs.proofs.GivenMarks.{written_given}
use Rattle.nj_needs.proofs.mark_laws.written_marks_are_given.Goals as goal

pub returns : goal.returns
returns c = written_given
