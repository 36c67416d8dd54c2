use Rattle.std.proofs.Common.{◌≡◌, false, take}
use Rattle.nj_names.specs.NumberSets.{has}
use Rattle.nj_deps.specs.Logs.{numbers_of}
use Rattle.nj_graph.proofs.undeclared.has_number.Given as goal

abbrev pub invariant-numbers : goal.invariant-numbers
invariant-numbers l = has (numbers_of (take l.number-index l.numbers)) l.wanted.0 ≡ false
