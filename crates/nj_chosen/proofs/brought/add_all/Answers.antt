use Rattle.nj_chosen.proofs.FindLemmas.{finds-all, finds-next}
use Rattle.nj_chosen.proofs.brought.add_all.Goals as goal

pub numbers-preserved : goal.numbers-preserved
numbers-preserved c =
    finds-next c.args.found.now c.numbers.found c.insert.new.self c.args.numbers.now c.numbers.number-index
    c.numbers-test.true c.numbers.invariant c.in_ok-insert.ensures.added

pub returns : goal.returns
returns c =
    finds-all c.args.found.now c.numbers.found c.args.numbers.now c.numbers.number-index c.numbers-test.false
    c.numbers.invariant
