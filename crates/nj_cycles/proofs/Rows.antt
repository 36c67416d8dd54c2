-- Rows computed on the definitions.
use Rattle.std.proofs.Common.{ℕ, zero, suc, Option, Some, None, List, [], ◌∷◌, refl, lit<}
use Rattle.nj_cycles.specs.Cycles.{Needs, IsOnCycle}
use Rattle.nj_cycles.specs.Cycles.Chain.{one, more}

-- `build a: c x b` and `build b: c a`: x is a source
abbrev each_other : ℕ → List (Option ℕ)
each_other zero = None ∷ Some 1 ∷ []
each_other (suc e) = Some 0 ∷ []

second_needs_first : Needs each_other 1 0
second_needs_first = (0, lit< tt, refl)

on_cycle : IsOnCycle each_other 0
on_cycle = more (1, lit< tt, refl) (one second_needs_first)
