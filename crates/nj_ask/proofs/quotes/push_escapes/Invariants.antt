use Rattle.std.proofs.Common.{◌≡◌, ◌++◌, take}
use Rattle.std.specs.List.{flat_map}
use Rattle.nj_ask.specs.Quotes.{escaped}
use Rattle.nj_ask.proofs.quotes.push_escapes.Given as goal

abbrev pub invariant-bytes : goal.invariant-bytes
invariant-bytes l = l.out.items ≡ l.fn.out.items ++ flat_map escaped (take l.byte-index l.byte-items)
