use Rattle.std.proofs.Common.{◌<◌, ℕ, slice_index}
use Rattle.nj_scope.specs.Inside.KeysHeld.{HasKeyAt}
use Rattle.nj_scope.proofs.rule.number_among.Given as goal

abbrev pub invariant-places : goal.invariant-places
invariant-places l = (n : ℕ) → n < l.place → ¬ HasKeyAt l.lines (slice_index l.indexes n) l.key
