-- Lemmas on lists.
use Rattle.std.proofs.lemmas.Grind.{common_steps}
use Rattle.std.proofs.Common.{◌≡◌, ◌≤◌, ◌||◌, ℕ, zero, suc, true, List, [], ◌∷◌, ◌++◌}
use Rattle.std.proofs.Common.{length, drop, slice_get, slice_range, Some, is_some, unwrap_or, bytes_eq, refl}
use Rattle.std.proofs.Common.{sym, ap, true≢false, arith}
use Rattle.std.specs.List.{list_any}
use Rattle.std.proofs.lemmas.Slice.Eq.{bytes_eq-Decides}

-- a part of a list is the same with more after it
pub slice_range-append : {A : Type 0} (items others : List A) (start end : ℕ) → start ≤ end
    → end ≤ length items → slice_range (items ++ others) start end ≡ slice_range items start end
slice_range-append items others start end rise within = grind (arith, common_steps)

-- all that is after the start
pub slice_range-rest : {A : Type 0} (items : List A) (start : ℕ) → start ≤ length items
    → slice_range items start (length items) ≡ drop start items
slice_range-rest items start below = grind (arith, common_steps)

-- the appended element is last
pub get-last : {X : Type 0} (xs : List X) (x : X) → slice_get (xs ++ x ∷ []) (length xs) ≡ Some x
get-last [] x = refl
get-last (y ∷ xs) x = get-last xs x

-- a name in a list is among it
pub among-get : (names : List (List ℕ)) (n : ℕ) (name : List ℕ) → slice_get names n ≡ Some name
    → list_any (bytes_eq name) names ≡ true
among-get [] n name h = absurd (true≢false (sym (ap is_some h)))
among-get (p ∷ names) zero name h = ap (λ b. b || list_any (bytes_eq name) names)
    ((bytes_eq-Decides name p).1 (sym (ap (λ o. unwrap_or o []) h)))
among-get (p ∷ names) (suc n) name h = grind (arith, bytes_eq name p, among-get names n name h, bytes_eq name)
