use Rattle.std.proofs.Common.{take}
use Rattle.std.specs.Prelude.{Contains}
use Rattle.nj_chosen.specs.Inside.Bringing.{FindsMore}
use Rattle.nj_chosen.proofs.brought.add_all.Given as goal

abbrev pub invariant-numbers : goal.invariant-numbers
invariant-numbers l = FindsMore (Contains (take l.number-index l.numbers)) l.fn.found l.found
