use Rattle.nj_deps.specs.Logs.{numbers_of}
use Rattle.nj_deps.proofs.WordLemmas.{all_read, one_past, shorter-by}
use Rattle.nj_deps.proofs.little_endian.push_numbers.Goals as goal

pub numbers-smaller : goal.numbers-smaller
numbers-smaller c = shorter-by c.numbers.rest.now c.in-Some.number c.in-Some.others.now c.in-Some.ensures.1

pub returns-then-number-count-clause-appended : goal.returns-then-number-count-clause-appended
returns-then-number-count-clause-appended c =
    one_past c.args.count c.args.bytes.now c.numbers.rest.now (numbers_of c.args.numbers.now.items)
    (numbers_of c.numbers.numbers.items)
    c.in-Some.number c.in-Some.others.now
    c.numbers.invariant c.requires.count c.in-Some.ensures.0 c.in-Some.ensures.1 c.if-number-count.true

pub returns-clause-appended : goal.returns-clause-appended
returns-clause-appended c =
    all_read c.args.count c.args.bytes.now c.numbers.rest.now (numbers_of c.args.numbers.now.items)
    (numbers_of c.numbers.numbers.items)
    c.numbers.invariant c.requires.words c.in_default.ensures
