use Rattle.nj_needs.proofs.GivenMarks.{written_given}
use Rattle.nj_needs.proofs.marks.Mark.to_text.Goals as goal

pub returns-in-empty-clause-reads_back : goal.returns-in-empty-clause-reads_back
returns-in-empty-clause-reads_back c = rw (← c.self.view_is)
    (written_given c.self.inside.numbers.items c.self.invariant)

pub returns-in-len1-up-clause-reads_back : goal.returns-in-len1-up-clause-reads_back
returns-in-len1-up-clause-reads_back c =
    rw (← c.self.view_is) (written_given c.self.inside.numbers.items c.self.invariant)
