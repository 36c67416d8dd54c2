use Rattle.std.proofs.Common.{◌≡◌, take}
use Rattle.nj_edges.specs.Inside.UsersHeld.{numbers_of}
use Rattle.nj_edges.proofs.needed.numbered.Given as goal

abbrev pub invariant-numbers : goal.invariant-numbers
invariant-numbers l = numbers_of l.edges.items ≡ take l.number-index l.numbers
