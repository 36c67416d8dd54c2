-- The rest of a list without its repeats when some of it is done.
use Rattle.std.proofs.Common.{arith, ◌≡◌, ℕ, Bool, true, false, not, ◌&&◌, ◌||◌, cond, List, [], ◌∷◌, ◌++◌}
use Rattle.std.proofs.Common.{refl}
use Rattle.std.proofs.Common.{sym, ap, subst, ◌∙◌, ◌⊎◌, inl, inr}
use Rattle.std.specs.Prelude.{nat_eq, filter}
use Rattle.std.specs.List.{list_any}
use Rattle.std.proofs.lemmas.Bool.{eq-eqb, eqb-true, false_from_ne_true}
use Rattle.std.proofs.lemmas.List.{append-nil}
use Rattle.std.proofs.lemmas.List.Elements.{filter_agree}
use Rattle.std.proofs.lemmas.List.Folds.{list_any-append}
use Rattle.nj_edges.specs.Repeats.{each_once}
use Rattle.nj_needs.specs.Marks.{without}
use Rattle.nj_needs.proofs.Members.{In, In-head, In-tail, In-cons_cases}

-- a filter of a filter
pub filter-filter : (p q : ℕ → Bool) (xs : List ℕ) → filter p (filter q xs) ≡ filter (λ x. q x && p x) xs
filter-filter p q [] = refl
filter-filter p q (x ∷ xs) = grind (arith, filter-filter p q xs)

and_comm : (a b : Bool) → (a && b) ≡ (b && a)
and_comm a b = grind arith

pub filter_comm : (p q : ℕ → Bool) (xs : List ℕ) → filter p (filter q xs) ≡ filter q (filter p xs)
filter_comm p q xs = grind (arith, filter-filter, filter_agree, and_comm)

not_or : (a b : Bool) → not (a || b) ≡ (not b && not a)
not_or a b = grind arith

-- to be without one more element is to be without it and without the others
pub without-cons : (x : ℕ) (xs es : List ℕ)
    → without (x ∷ xs) es ≡ filter (λ y. not (nat_eq y x)) (without xs es)
without-cons x xs es = grind (arith, filter_agree, not_or, filter-filter)

same_and : (a : Bool) → (a && a) ≡ a
same_and a = grind arith

-- a struck element may be in front, and may be struck before
without-struck : (x : ℕ) (xs es : List ℕ)
    → without (x ∷ xs) (x ∷ filter (λ y. not (nat_eq y x)) es) ≡ without (x ∷ xs) es
without-struck x xs es =
    let q : ℕ → Bool = λ y. not (nat_eq y x) in
    ap (λ b. cond (not (b || list_any (nat_eq x) xs)) (x ∷ without (x ∷ xs) (filter q es))
    (without (x ∷ xs) (filter q es))) (eq-eqb x x refl)
    ∙ without-cons x xs (filter q es)
    ∙ ap (filter q) (filter_comm (λ y. not (list_any (nat_eq y) xs)) q es)
    ∙ filter-filter q q (without xs es)
    ∙ filter_agree (λ y. q y && q y) q (λ y. same_and (q y)) (without xs es)
    ∙ sym (without-cons x xs es)

-- the elements done need not be in front
pub without-front : (xs ys : List ℕ) → without xs (each_once nat_eq (xs ++ ys))
    ≡ without xs (each_once nat_eq ys)
without-front [] ys = refl
without-front (x ∷ xs) ys = grind (
  arith,
  without-struck x xs (each_once nat_eq (xs ++ ys)),
  without-cons x xs (each_once nat_eq (xs ++ ys)),
  without-front xs ys,
  without-cons x xs (each_once nat_eq ys),
)

-- nothing is left of a list that is done
pub without-all : (xs : List ℕ) → without xs (each_once nat_eq xs) ≡ []
without-all xs = ap (λ ys. without xs (each_once nat_eq ys)) (sym (append-nil xs)) ∙ without-front xs []

-- nothing is struck where nothing is done
pub without-none : (es : List ℕ) → without [] es ≡ es
without-none [] = refl
without-none (e ∷ es) = ap (λ (xs : List ℕ). e ∷ xs) (without-none es)

-- lists with the same members strike the same
pub without-same : (xs ys es : List ℕ) → ((x : ℕ) → list_any (nat_eq x) xs ≡ list_any (nat_eq x) ys)
    → without xs es ≡ without ys es
without-same xs ys es same = grind arith

-- one more element is done that was not
pub without-next : (xs : List ℕ) (m : ℕ) (more : List ℕ) → list_any (nat_eq m) xs ≡ false
    → without xs (each_once nat_eq (xs ++ m ∷ more))
    ≡ m ∷ without (xs ++ m ∷ []) (each_once nat_eq (xs ++ m ∷ more))
without-next xs m more fresh =
    let q : ℕ → Bool = λ y. not (nat_eq y m) in
    let N = each_once nat_eq more in
    let left : without xs (each_once nat_eq (xs ++ m ∷ more)) ≡ m ∷ without xs (filter q N) =
    without-front xs (m ∷ more) ∙ ap (λ b. cond (not b) (m ∷ without xs (filter q N))
    (without xs (filter q N))) fresh in
    let swapped : (y : ℕ) → list_any (nat_eq y) (xs ++ m ∷ []) ≡ list_any (nat_eq y) (m ∷ xs) =
    λ y. list_any-append (nat_eq y) xs (m ∷ []) ∙ or_swap (list_any (nat_eq y) xs) (nat_eq y m) in
    let right : without (xs ++ m ∷ []) (each_once nat_eq (xs ++ m ∷ more)) ≡ without xs (filter q N) =
    without-same (xs ++ m ∷ []) (m ∷ xs) (each_once nat_eq (xs ++ m ∷ more)) swapped
    ∙ without-cons m xs (each_once nat_eq (xs ++ m ∷ more))
    ∙ ap (filter q) (without-front xs (m ∷ more)
    ∙ ap (λ b. cond (not b) (m ∷ without xs (filter q N)) (without xs (filter q N))) fresh)
    ∙ ap (λ b. cond (not b) (m ∷ filter q (without xs (filter q N))) (filter q (without xs (filter q N))))
    (eq-eqb m m refl)
    ∙ ap (filter q) (filter_comm (λ y. not (list_any (nat_eq y) xs)) q N)
    ∙ filter-filter q q (without xs N)
    ∙ filter_agree (λ y. q y && q y) q (λ y. same_and (q y)) (without xs N)
    ∙ filter_comm q (λ y. not (list_any (nat_eq y) xs)) N in
    left ∙ ap (λ es. m ∷ es) (sym right)
  where
    or_swap : (a b : Bool) → (a || (b || false)) ≡ (b || a)
    or_swap true true = refl
    or_swap true false = refl
    or_swap false true = refl
    or_swap false false = refl

-- ---- no duplicates

-- the elements differ
abbrev pub Differ : List ℕ → Type 0
Differ [] = Unit {0}
Differ (x ∷ xs) = (list_any (nat_eq x) xs ≡ false) × Differ xs

pub In-filter : (p : ℕ → Bool) (xs : List ℕ) (x : ℕ) → In (filter p xs) x → In xs x × (p x ≡ true)
In-filter p [] x i = absurd cc
In-filter p (y ∷ xs) x i = by_test (λ j. In-filter p xs x j) (p y) refl i
  where
    by_test : (In (filter p xs) x → In xs x × (p x ≡ true)) → (b : Bool) → p y ≡ b
        → In (cond b (y ∷ filter p xs) (filter p xs)) x → In (y ∷ xs) x × (p x ≡ true)
    by_test later true is j = elim (In-cons_cases y (filter p xs) x j) [
      | inl e ↦ (subst (In (y ∷ xs)) (sym e) (In-head y xs), ap p e ∙ is)
      | inr t ↦ let r = later t in (In-tail y xs x r.0, r.1)
    ]
    by_test later false is j = let r = later j in (In-tail y xs x r.0, r.1)

pub In-filter_from : (p : ℕ → Bool) (xs : List ℕ) (x : ℕ) → In xs x → p x ≡ true → In (filter p xs) x
In-filter_from p [] x i is = absurd cc
In-filter_from p (y ∷ xs) x i is = by_test (λ t. In-filter_from p xs x t is) (p y) refl
    (In-cons_cases y xs x i)
  where
    by_test : (In xs x → In (filter p xs) x) → (b : Bool) → p y ≡ b → (x ≡ y) ⊎ In xs x
        → In (cond b (y ∷ filter p xs) (filter p xs)) x
    by_test later true at (inl e) = subst (In (y ∷ filter p xs)) (sym e) (In-head y (filter p xs))
    by_test later true at (inr t) = In-tail y (filter p xs) x (later t)
    by_test later false at (inl e) = absurd (let f : p x ≡ false = ap p e ∙ at in cc)
    by_test later false at (inr t) = later t

pub Differ-filter : (p : ℕ → Bool) (xs : List ℕ) → Differ xs → Differ (filter p xs)
Differ-filter p [] h = tt
Differ-filter p (x ∷ xs) h = by_test (Differ-filter p xs h.1) (p x)
  where
    by_test : Differ (filter p xs) → (b : Bool) → Differ (cond b (x ∷ filter p xs) (filter p xs))
    by_test later true = (
      false_from_ne_true (list_any (nat_eq x) (filter p xs))
          (λ i. let r = In-filter p xs x i in let f : list_any (nat_eq x) xs ≡ false = h.0 in cc),
      later,
    )
    by_test later false = later

pub Differ-first : (xs : List ℕ) → Differ (each_once nat_eq xs)
Differ-first [] = tt
Differ-first (x ∷ xs) = (
  false_from_ne_true (list_any (nat_eq x) (filter (λ y. not (nat_eq y x)) (each_once nat_eq xs)))
      (λ i. let r = In-filter (λ y. not (nat_eq y x)) (each_once nat_eq xs) x i in
      let t : not (nat_eq x x) ≡ true = r.1 in let s : nat_eq x x ≡ true = eq-eqb x x refl in
      let n : not (nat_eq x x) ≡ false = ap not s in cc),
  Differ-filter (λ y. not (nat_eq y x)) (each_once nat_eq xs) (Differ-first xs),
)

-- the members stay
pub In-first_from : (xs : List ℕ) (x : ℕ) → In xs x → In (each_once nat_eq xs) x
In-first_from [] x i = absurd cc
In-first_from (y ∷ xs) x i = by_test (filter (λ z. not (nat_eq z y)) (each_once nat_eq xs)) (nat_eq x y) refl
    (In-cons_cases y xs x i)
    (λ at t. In-filter_from (λ z. not (nat_eq z y)) (each_once nat_eq xs) x (In-first_from xs x t)
    (ap not at))
  where
    by_test : (rest : List ℕ) (b : Bool) → nat_eq x y ≡ b → (x ≡ y) ⊎ In xs x
        → (nat_eq x y ≡ false → In xs x → In rest x) → In (y ∷ rest) x
    by_test rest true is h later = subst (In (y ∷ rest)) (sym (eqb-true x y is)) (In-head y rest)
    by_test rest false is (inl e) later = subst (In (y ∷ rest)) (sym e) (In-head y rest)
    by_test rest false is (inr t) later = In-tail y rest x (later is t)

pub In-first : (xs : List ℕ) (x : ℕ) → In (each_once nat_eq xs) x → In xs x
In-first [] x i = absurd cc
In-first (y ∷ xs) x i = elim (In-cons_cases y (filter (λ z. not (nat_eq z y)) (each_once nat_eq xs)) x i) [
  | inl e ↦ subst (In (y ∷ xs)) (sym e) (In-head y xs)
  | inr t ↦ In-tail y xs x (In-first xs x (In-filter (λ z. not (nat_eq z y)) (each_once nat_eq xs) x t).0)
]
