-- Lists of edges as sets, and the makers in a row.
use Rattle.std.proofs.lemmas.Grind.{common_steps}
use Rattle.std.proofs.Common.{◌≡◌, ℕ, zero, suc, ◌<◌, get_or, take, Bool, true, Option, Some, List, []}
use Rattle.std.proofs.Common.{◌∷◌, ◌++◌, length, refl, ◌⊎◌, inl, inr, arith}
use Rattle.std.specs.Prelude.{nat_eq, Contains, slice_get}
use Rattle.std.specs.List.{list_any}
use Rattle.std.specs.Cmp.{nat_eq_equiv}
use Rattle.std.proofs.lemmas.Bool.{eqb-true, eq-eqb, or_left, or_right}
use Rattle.std.proofs.lemmas.List.Elements.{Contains-append_right}
use Rattle.std.proofs.lemmas.Map.Views.{Contains-from_any, list_any-from_Contains}

-- x is an element of xs, by a test
abbrev pub In : List ℕ → ℕ → Type 0
In xs x = list_any (nat_eq x) xs ≡ true

pub In-from_Contains : (xs : List ℕ) (x : ℕ) → Contains xs x → In xs x
In-from_Contains xs x h = list_any-from_Contains nat_eq_equiv x xs h

pub Contains-from_In : (xs : List ℕ) (x : ℕ) → In xs x → Contains xs x
Contains-from_In xs x h = Contains-from_any (λ a b e. eqb-true a b e) x xs h

pub In-append_left : (xs ys : List ℕ) (x : ℕ) → In xs x → In (xs ++ ys) x
In-append_left xs ys x h = grind (arith, common_steps)

pub In-append_right : (xs ys : List ℕ) (x : ℕ) → In ys x → In (xs ++ ys) x
In-append_right xs ys x h = grind (arith, common_steps)

pub In-head : (x : ℕ) (xs : List ℕ) → In (x ∷ xs) x
In-head x xs = or_left (nat_eq x x) (list_any (nat_eq x) xs) (eq-eqb x x refl)

pub In-tail : (y : ℕ) (xs : List ℕ) (x : ℕ) → In xs x → In (y ∷ xs) x
In-tail y xs x h = or_right (nat_eq x y) (list_any (nat_eq x) xs) h

pub In-cons_cases : (y : ℕ) (xs : List ℕ) (x : ℕ) → In (y ∷ xs) x → (x ≡ y) ⊎ In xs x
In-cons_cases y xs x h = grind arith

pub In-append_cases : (xs ys : List ℕ) (x : ℕ) → In (xs ++ ys) x → In xs x ⊎ In ys x
In-append_cases xs ys x h = grind (arith, common_steps)

pub In-single : (y x : ℕ) → In (y ∷ []) x → x ≡ y
In-single y x i = elim (In-cons_cases y [] x i) [ inl e ↦ e | inr t ↦ absurd cc ]

pub In-last : (xs : List ℕ) (x : ℕ) → In (xs ++ x ∷ []) x
In-last xs x = In-append_right xs (x ∷ []) x (In-head x [])

-- two tests that are true of the same things are the same
pub same_tests : (a b : Bool) → (a ≡ true → b ≡ true) → (b ≡ true → a ≡ true) → a ≡ b
same_tests a b there back = grind arith

-- ---- the makers in a row

-- edge m makes a file of the row
abbrev pub Among : List (Option ℕ) → ℕ → Type 0
Among [] m = ⊥
Among (x ∷ row) m = (x ≡ Some m) ⊎ Among row m

pub Among-get : (row : List (Option ℕ)) (p m : ℕ) → slice_get row p ≡ Some (Some m) → Among row m
Among-get [] p m h = absurd cc
Among-get (x ∷ row) zero m h = grind arith
Among-get (x ∷ row) (suc p) m h = inr (Among-get row p m h)

pub Contains-from_Among : (row : List (Option ℕ)) (m : ℕ) → Among row m → Contains row (Some m)
Contains-from_Among [] m h = absurd h
Contains-from_Among (x ∷ row) m (inl is) = (0, omega arith, is)
Contains-from_Among (x ∷ row) m (inr h) =
    Contains-append_right (x ∷ []) row (Some m) (Contains-from_Among row m h)

among_at : (row : List (Option ℕ)) (k m : ℕ) → k < length row → get_or row k (Some m) ≡ Some m → Among row m
among_at [] k m lt at = absurd (omega (arith, lt))
among_at (x ∷ row) zero m lt at = inl at
among_at (x ∷ row) (suc k) m lt at = inr (among_at row k m (omega (arith, lt)) at)

pub Among-from_Contains : (row : List (Option ℕ)) (m : ℕ) → Contains row (Some m) → Among row m
Among-from_Contains row m c = among_at row c.0 m c.1 c.2

pub Among-take : (n : ℕ) (row : List (Option ℕ)) (m : ℕ) → Among (take n row) m → Among row m
Among-take zero row m h = absurd h
Among-take (suc n) [] m h = h
Among-take (suc n) (x ∷ row) m (inl is) = inl is
Among-take (suc n) (x ∷ row) m (inr h) = inr (Among-take n row m h)
