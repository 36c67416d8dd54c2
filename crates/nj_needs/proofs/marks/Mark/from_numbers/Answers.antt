use Rattle.nj_needs.proofs.GivenMarks.{written_given, all-fit}
use Rattle.nj_needs.proofs.marks.Mark.from_numbers.Goals as goal

pub returns-in_err-numbers-clause-reads_back : goal.returns-in_err-numbers-clause-reads_back
returns-in_err-numbers-clause-reads_back c =
    written_given c.args.numbers.now (all-fit c.args.numbers.now (λ k. (c.type_inv.numbers k).fits))

pub invariant_of-result : goal.invariant_of-result
invariant_of-result c = rw c.in_ok-numbers.ensures.items
    (all-fit c.args.numbers.now (λ k. (c.type_inv.numbers k).fits))

pub returns-clause-reads_back : goal.returns-clause-reads_back
returns-clause-reads_back c = written_given c.args.numbers.now
    (all-fit c.args.numbers.now (λ k. (c.type_inv.numbers k).fits))
