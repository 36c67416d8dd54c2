use Rattle.nj_needs.proofs.GivenMarks.{given_written}
use Rattle.nj_needs.proofs.mark_laws.given_marks_are_written.Goals as goal

pub returns : goal.returns
returns c = given_written
