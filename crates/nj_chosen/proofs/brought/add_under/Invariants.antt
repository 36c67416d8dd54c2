use Rattle.std.proofs.Common.{map, take, string_bytes}
use Rattle.nj_chosen.specs.Inside.Numbers.{AddsNumber}
use Rattle.nj_chosen.proofs.brought.add_under.Given as goal

abbrev pub invariant-names : goal.invariant-names
invariant-names l =
    AddsNumber (map string_bytes (take l.name-index l.names)) l.fn.number l.fn.numbers l.numbers
