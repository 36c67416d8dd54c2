-- The last name is taken off a path.
use Rattle.std.proofs.lemmas.Grind.{common_steps}
use Rattle.std.proofs.Common.{◌≡◌, ℕ, ◌≤◌, Bool, true, false, List, [], ◌∷◌, ◌++◌, length, take, refl, sym}
use Rattle.std.proofs.Common.{ap, ◌∙◌, arith, inl, inr}
use Rattle.std.specs.Prelude.{◌||◌}
use Rattle.std.specs.List.{list_any}
use Rattle.std.proofs.lemmas.List.{take_at}
use Rattle.nj_text.specs.Paths.{is_slash}
use Rattle.nj_text.specs.Inside.Cleaning.{DropsName}

-- some bytes without a slash are gone
pub record IsDropping (floor : ℕ) (old now : List ℕ) : Type 0 where
  pub name : List ℕ
  pub name_is : list_any is_slash name ≡ false
  pub old_is : old ≡ now ++ name
  pub above : floor ≤ length now

or_true : (s : Bool) → s || true ≡ true
or_true s = grind arith

any-slash : (xs ys : List ℕ) → list_any is_slash (xs ++ 47 ∷ ys) ≡ true
any-slash xs ys = grind (arith, common_steps)

no_slash : (a xs ys : List ℕ) → list_any is_slash a ≡ false → a ≡ xs ++ 47 ∷ ys → ⊥
no_slash a xs ys h e = let yes : list_any is_slash a ≡ true = ap (list_any is_slash) e ∙ any-slash xs ys in cc

-- the last slash of a text is at one place
same_head : (xs ys a b : List ℕ) → list_any is_slash a ≡ false → list_any is_slash b ≡ false
    → xs ++ 47 ∷ a ≡ ys ++ 47 ∷ b → xs ≡ ys
same_head [] [] a b h k e = refl
same_head [] (y ∷ ys) a b h k e = let t : a ≡ ys ++ 47 ∷ b = cc in absurd (no_slash a ys b h t)
same_head (x ∷ xs) [] a b h k e = let t : b ≡ xs ++ 47 ∷ a = cc in absurd (no_slash b xs a k t)
same_head (x ∷ xs) (y ∷ ys) a b h k e =
    let first : x ≡ y = cc in
    let t : xs ++ 47 ∷ a ≡ ys ++ 47 ∷ b = cc in
    rw first (ap (λ zs. y ∷ zs) (same_head xs ys a b h k t))

-- a text that ends without a slash does not end after one
not_longer : (xs a ys b : List ℕ) → xs ++ a ≡ ys ++ 47 ∷ b → length xs ≤ length ys
    → list_any is_slash a ≡ false → ⊥
not_longer [] a ys b e l h = no_slash a ys b h e
not_longer (x ∷ xs) a [] b e l h = absurd (omega arith)
not_longer (x ∷ xs) a (y ∷ ys) b e l h = let t : xs ++ a ≡ ys ++ 47 ∷ b = cc in
    not_longer xs a ys b t (omega arith) h

-- the name goes with the slash before it
pub drops-at : (floor : ℕ) (head name new : List ℕ) → list_any is_slash name ≡ false → floor ≤ length head
    → DropsName floor (head ++ 47 ∷ name) new → new ≡ head
drops-at floor head name new h l h1 = grind (arith, same_head, not_longer)

-- the name is alone above the floor
pub drops-alone : (floor : ℕ) (head name new : List ℕ) → list_any is_slash name ≡ false → floor ≡ length head
    → DropsName floor (head ++ name) new → new ≡ head
drops-alone floor head name new h l (other, k, inl (above, e)) =
    absurd (not_longer head name new other e (omega arith) h)
drops-alone floor head name new h l (other, k, inr (at, e)) =
    let long : length new ≡ length head = omega arith in
    sym (take_at new other (length head) long) ∙ ap (take (length head)) (sym e)
    ∙ take_at head name (length head) refl
