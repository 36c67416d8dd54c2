use Rattle.std.proofs.Common.{◌≡◌, map, take}
use Rattle.nj_stale.proofs.order.makers_first.Given as goal

abbrev pub invariant-numbers : goal.invariant-numbers
invariant-numbers l = map (λ edge. edge.0) l.order.items ≡ take l.index l.numbers.items
