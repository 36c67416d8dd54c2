-- Numbers that come one after another.
use Rattle.std.proofs.lemmas.Grind.{common_steps}
use Rattle.std.proofs.Common.{◌≡◌, ◌<◌, ◌+◌, ◌-◌, ℕ, Option, Some, None, List, [], ◌∷◌}
use Rattle.std.proofs.Common.{arith}
use Rattle.std.specs.Prelude.{MatchOption}
use Rattle.std.specs.List.{range_with_len}

-- the numbers from `start` up to `end`
abbrev pub numbers-in : (start end : ℕ) → List ℕ
numbers-in start end = range_with_len start (end - start)

-- a number was taken, from `start` up to `end`, and the numbers from `next` up to `stop` are left
module _ (start end next stop : ℕ) where
  abbrev taken : Option ℕ → Type 0
  taken r = (stop ≡ end) × MatchOption r ((end - start ≡ 0) × (next ≡ start))
      (λ x. (0 < end - start) × (x ≡ start) × (next ≡ start + 1))

  pub first-taken : (r : Option ℕ) (x : ℕ) → taken r → r ≡ Some x
      → numbers-in start end ≡ x ∷ numbers-in next stop
  first-taken r x steps is = grind (arith, common_steps)

  pub none-left : (r : Option ℕ) → taken r → r ≡ None
      → (numbers-in start end ≡ []) × (numbers-in next stop ≡ [])
  none-left r steps is = grind (arith, common_steps)
