-- Flags that a loop sets, and lists whose items belong together.
use Rattle.std.proofs.Common.{◌≡◌, ◌<◌, ℕ, List, [], ◌∷◌, ◌++◌, length}
use Rattle.std.proofs.Common.{get_or, zero, suc, refl, ap, arith}
use Rattle.std.specs.List.{AllZip}

module _ {X Y : Type 0} (R : X → Y → Type 0) where
  pub zip-push : (xs : List X) (ys : List Y) (x : X) (y : Y) → AllZip R xs ys → R x y
      → AllZip R (xs ++ x ∷ []) (ys ++ y ∷ [])
  zip-push [] [] x y all next = (next, tt)
  zip-push [] (b ∷ ys) x y all next = elim all [ ]
  zip-push (a ∷ xs) [] x y all next = elim all [ ]
  zip-push (a ∷ xs) (b ∷ ys) x y all next = (all.0, zip-push xs ys x y all.1 next)

  pub zip-length : (xs : List X) (ys : List Y) → AllZip R xs ys → length xs ≡ length ys
  zip-length [] [] all = refl
  zip-length [] (y ∷ ys) all = elim all [ ]
  zip-length (x ∷ xs) [] all = elim all [ ]
  zip-length (x ∷ xs) (y ∷ ys) all = ap suc (zip-length xs ys all.1)

  pub zip-at : (xs : List X) (ys : List Y) (i : ℕ) (d : X) (e : Y) → AllZip R xs ys → i < length xs
      → R (get_or xs i d) (get_or ys i e)
  zip-at [] ys i d e all below = absurd (omega arith)
  zip-at (x ∷ xs) [] i d e all below = elim all [ ]
  zip-at (x ∷ xs) (y ∷ ys) zero d e all below = all.0
  zip-at (x ∷ xs) (y ∷ ys) (suc i) d e all below = zip-at xs ys i d e all.1 (omega arith)
