-- The longest front of a list that passes a test, and how far it is known from a part of the list.
use Rattle.std.proofs.Common.{◌≡◌, ℕ, zero, suc, ◌+◌, ◌<◌, ◌≤◌, Bool, true, false, List, [], ◌∷◌, length}
use Rattle.std.proofs.Common.{take, drop, refl, ap₂, arith}
use Rattle.std.specs.Prelude.{◌&&◌}
use Rattle.std.specs.List.{list_all, prefix_len}
use Rattle.std.proofs.lemmas.List.Folds.{list_all_at}
use Rattle.std.proofs.lemmas.List.Sums.{prefix_len_stops}
use Rattle.nj_text.proofs.Lists.{prefix_len-cons_yes, prefix_len-cons_no}

module _ {X : Type 0} (p : X → Bool) where
  pub front_passes : (xs : List X) → list_all p (take (prefix_len p xs) xs) ≡ true
  front_passes [] = refl
  front_passes (x ∷ xs) = by_test (p x) refl (front_passes xs)
    where
      by_test : (b : Bool) → p x ≡ b → list_all p (take (prefix_len p xs) xs) ≡ true
          → list_all p (take (prefix_len p (x ∷ xs)) (x ∷ xs)) ≡ true
      by_test true e rest = rw (prefix_len-cons_yes p x xs e) (ap₂ (λ s t. s && t) e rest)
      by_test false e rest = rw (prefix_len-cons_no p x xs e) refl

  -- a part of the front may be left out
  pub front_after : (xs : List X) (n : ℕ) → n ≤ prefix_len p xs
      → prefix_len p xs ≡ n + prefix_len p (drop n xs)
  front_after xs zero low = omega arith
  front_after [] (suc n) low = absurd (omega (arith, low))
  front_after (x ∷ xs) (suc n) low = by_test (p x) refl (front_after xs n)
    where
      by_test : (b : Bool) → p x ≡ b → (n ≤ prefix_len p xs → prefix_len p xs ≡ n + prefix_len p (drop n xs))
          → prefix_len p (x ∷ xs) ≡ suc n + prefix_len p (drop n xs)
      by_test true e rest = let one = prefix_len-cons_yes p x xs e in
          omega (arith, one, rest (omega (arith, one, low)))
      by_test false e rest = absurd (omega (arith, prefix_len-cons_no p x xs e, low))

-- the byte after the front does not pass
pub some_fails : (p : ℕ → Bool) (xs : List ℕ) → prefix_len p xs < length xs → list_all p xs ≡ false
some_fails p xs short = list_all_at p xs (prefix_len p xs) 0 short (prefix_len_stops p xs 0 short)
