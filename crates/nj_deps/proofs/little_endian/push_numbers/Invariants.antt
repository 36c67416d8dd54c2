use Rattle.std.proofs.Common.{length}
use Rattle.nj_deps.specs.Logs.{numbers_of}
use Rattle.nj_deps.proofs.WordLemmas.{NumbersRead}
use Rattle.nj_deps.proofs.little_endian.push_numbers.Given as goal

abbrev pub invariant-numbers : goal.invariant-numbers
invariant-numbers l = NumbersRead l.count l.bytes l.rest (numbers_of l.fn.numbers.items)
    (numbers_of l.numbers.items)

abbrev pub decreases-numbers : goal.decreases-numbers
decreases-numbers l = length l.rest
