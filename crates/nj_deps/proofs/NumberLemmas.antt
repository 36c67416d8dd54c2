-- Lemmas on the numbers of paths.
use Rattle.std.proofs.lemmas.Grind.{common_steps}
use Rattle.std.proofs.Common.{◌≡◌, ◌<◌, ◌+◌, ℕ, zero, suc, Some, List, [], ◌∷◌}
use Rattle.std.proofs.Common.{length, drop, slice_get, slice_range, refl, sym, ap}
use Rattle.std.proofs.Common.{arith, add-one, true≢false}
use Rattle.std.specs.List.{AllByRecursion}
use Rattle.std.specs.Prelude.{slice_index_or, take, is_some, unwrap_or}
use Rattle.nj_deps.specs.Logs.{numbers_of}
use Rattle.nj_deps.specs.declared.path_no.PathNo.{PathNo}

pub numbers-length : (numbers : List PathNo) → length (numbers_of numbers) ≡ length numbers
numbers-length numbers = grind (arith, common_steps)

numbers-drop : (numbers : List PathNo) (n : ℕ) → numbers_of (drop n numbers) ≡ drop n (numbers_of numbers)
numbers-drop numbers zero = refl
numbers-drop [] (suc n) = refl
numbers-drop (p ∷ numbers) (suc n) = numbers-drop numbers n

numbers-take : (numbers : List PathNo) (n : ℕ) → numbers_of (take n numbers) ≡ take n (numbers_of numbers)
numbers-take numbers zero = refl
numbers-take [] (suc n) = refl
numbers-take (p ∷ numbers) (suc n) = ap (λ ns. p.0 ∷ ns) (numbers-take numbers n)

-- a part of them
pub numbers-part : (numbers : List PathNo) (start end : ℕ)
    → numbers_of (slice_range numbers start end) ≡ slice_range (numbers_of numbers) start end
numbers-part numbers start end = grind (arith, numbers-drop, numbers-take)

-- the first of the paths that are left
pub first-left : (paths : List (List ℕ)) (n : ℕ) (path : List ℕ) → slice_get paths n ≡ Some path
    → drop n paths ≡ path ∷ drop (n + 1) paths
first-left paths n path at = rw (add-one n) (from paths n at)
  where
    from : (ps : List (List ℕ)) (i : ℕ) → slice_get ps i ≡ Some path → drop i ps ≡ path ∷ drop (suc i) ps
    from [] i none = absurd (true≢false (sym (ap is_some none)))
    from (p ∷ ps) zero first = ap (λ q. q ∷ ps) (ap (λ o. unwrap_or o p) first)
    from (p ∷ ps) (suc i) more = from ps i more

-- each of some numbers that are below a count
pub number-below : (count : ℕ) (numbers : List PathNo) (i : ℕ) (d : PathNo)
    → AllByRecursion (λ n. n < count) (numbers_of numbers) → i < length numbers
    → (slice_index_or numbers i d).0 < count
number-below count [] i d below within = absurd (omega (arith, within))
number-below count (p ∷ numbers) zero d below within = below.0
number-below count (p ∷ numbers) (suc i) d below within =
    number-below count numbers i d below.1 (omega (arith, within))
