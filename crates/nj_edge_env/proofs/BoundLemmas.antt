-- Lemmas on the values of one name.
use Rattle.std.proofs.lemmas.Grind.{common_steps}
use Rattle.std.proofs.Common.{◌≡◌, ◌≢◌, ℕ, zero, suc, ◌+◌, ◌-◌, ◌<◌, ◌≤◌, nat_eq, Bool, true, false, cond}
use Rattle.std.proofs.Common.{not, ◌&&◌, ◌⊎◌, ltb, Some, None, is_some, Result, option_map}
use Rattle.std.proofs.Common.{List, [], ◌∷◌, ◌++◌, length, get_or, slice_set, refl, sym, ap}
use Rattle.std.proofs.Common.{subst, ◌∙◌, arith, length-append}
use Rattle.std.proofs.lemmas.Bool.{ltb-true, ltb-false}
use Rattle.std.specs.List.{AllByRecursion, slice_range}
use Rattle.std.specs.List.Sorted.{IsPartitionedBy, IsPartitionPoint}
use Rattle.std.specs.Result.{OnOk, OnErr}
use Rattle.std.specs.Map.{lookup}
use Rattle.std.proofs.lemmas.Bool.Decides.{eqb_tells}
use Rattle.std.proofs.lemmas.List.Elements.{All-from_recursion}
use Rattle.std.proofs.lemmas.Option.{same_Some}
use Rattle.nj_edge_env.specs.declared.name_values.Bound.{Bound}
use Rattle.nj_edge_env.specs.Inside.BlocksHeld.{values_of, AreRising, IsPart, BoundsAreHeld, IsBoundTo}
use Rattle.nj_edge_env.specs.Inside.BlocksHeld.{BeginsWith, with_bound, ends_at, bound_of}

-- ---- tests

abbrev pub Compared : ℕ → ℕ → Type 0
Compared n m = ((nat_eq n m ≡ true) × (n ≡ m)) ⊎ ((nat_eq n m ≡ false) × (n ≢ m))

pub same-from_test : (n m : ℕ) → nat_eq n m ≡ true → n ≡ m
same-from_test n m h = grind arith

pub test-from_apart : (n m : ℕ) → n ≢ m → nat_eq n m ≡ false
test-from_apart n m apart = grind arith

pub test-from_same : (n m : ℕ) → n ≡ m → nat_eq n m ≡ true
test-from_same n m e = grind arith

-- of two tests that do not both pass, either may come first
pub swapped : {X : Type 0} (s t : Bool) (x y z : X) → (s ≡ true → t ≡ true → ⊥)
    → cond s x (cond t y z) ≡ cond t y (cond s x z)
swapped s t x y z apart = grind arith

-- a step unless a condition is true
pub listed-before : {X : Type 0} (s t : Bool) (x y : X) → t ≡ true → y ≡ cond (s && not t) x y
listed-before s t x y h = grind arith

pub listed-now : {X : Type 0} (s t : Bool) (x y : X) → t ≡ false → cond s x y ≡ cond (s && not t) x y
listed-now s t x y h = grind arith

pub at_ok : {X Y P Q : Type 0} (r : Result X Y) → OnOk r P → (P → Q) → OnOk r Q
at_ok r h then_so = grind arith

pub at_err : {X Y P Q : Type 0} (r : Result X Y) → OnErr r P → (P → Q) → OnErr r Q
at_err r h then_so = grind arith

pub in_both : {X Y P Q R : Type 0} (r : Result X Y) → OnOk r P → OnErr r Q → (P → R) → (Q → R) → R
in_both r ok err if_ok if_err = grind arith

pub on_err : {X Y Q : Type 0} (r : Result X Y) → Q → OnErr r Q
on_err r h = grind arith

-- ---- a text that grew

pub slice_kept : (xs ys : List ℕ) (a b : ℕ) → a ≤ b → b ≤ length xs
    → slice_range (xs ++ ys) a b ≡ slice_range xs a b
slice_kept xs ys a b rises ends = grind (arith, common_steps)

pub values_kept : (text new : List ℕ) (last : ℕ) (bounds : List Bound) → BeginsWith text new
    → AllByRecursion (IsPart (length text) last) bounds → values_of new bounds ≡ values_of text bounds
values_kept text new last [] grew parts = refl
values_kept text new last (b ∷ bounds) grew parts = grind (
  arith,
  slice_kept text grew.0 b.start b.end parts.0.rises parts.0.ends,
  values_kept text new last bounds grew parts.1,
)

pub longer : (text new : List ℕ) → BeginsWith text new → length text ≤ length new
longer text new grew = omega (arith, ap length grew.1, length-append text grew.0)

pub parts_grow : (len more last : ℕ) (bounds : List Bound) → len ≤ more
    → AllByRecursion (IsPart len last) bounds → AllByRecursion (IsPart more last) bounds
parts_grow len more last [] h parts = tt
parts_grow len more last (b ∷ bounds) h parts = grind (arith, parts_grow len more last bounds h parts.1)

pub bounds_grow : (len more last : ℕ) (bounds : List Bound) → len ≤ more → BoundsAreHeld len last bounds
    → BoundsAreHeld more last bounds
bounds_grow len more last bounds h held = grind (arith, parts_grow)

-- ---- look-ups

pub values_at : (text : List ℕ) (bounds : List Bound) (edge : ℕ)
    → lookup (λ x. nat_eq edge x) (values_of text bounds)
    ≡ option_map (λ b. slice_range text b.start b.end) (bound_of bounds edge)
values_at text [] edge = refl
values_at text (b ∷ bounds) edge = by (nat_eq edge b.edge) (values_at text bounds edge)
  where
    by : (t : Bool) → lookup (λ x. nat_eq edge x) (values_of text bounds)
        ≡ option_map (λ b. slice_range text b.start b.end) (bound_of bounds edge)
        → cond t (Some (slice_range text b.start b.end)) (lookup (λ x. nat_eq edge x) (values_of text bounds))
        ≡ option_map (λ b. slice_range text b.start b.end) (cond t (Some b) (bound_of bounds edge))
    by true rest = refl
    by false rest = rest

-- the first bound is before every other bound
before : (b : Bound) (bounds : List Bound) → AllByRecursion (λ c. b.edge < c.edge) bounds
    → (i : ℕ) (d : Bound) → i < length bounds → b.edge < (get_or bounds i d).edge
before b bounds all i d h = All-from_recursion (λ c. b.edge < c.edge) bounds all i d h

pub found-at : (bounds : List Bound) (edge i : ℕ) (d : Bound) → AreRising bounds → i < length bounds
    → (get_or bounds i d).edge ≡ edge → bound_of bounds edge ≡ Some (get_or bounds i d)
found-at [] edge i d rising h e = absurd (omega arith)
found-at (b ∷ bounds) edge zero d rising h e = grind arith
found-at (b ∷ bounds) edge (suc i) d rising h e =
    let below : i < length bounds = omega arith in
    let less = before b bounds rising.0 i d below in
    ap (λ t. cond t (Some b) (bound_of bounds edge))
    (test-from_apart edge b.edge (λ same. omega (arith, less, same, e)))
    ∙ found-at bounds edge i d rising.1 below e

pub none-at : (bounds : List Bound) (edge : ℕ) (d : Bound)
    → ((i : ℕ) → i < length bounds → (get_or bounds i d).edge ≢ edge) → bound_of bounds edge ≡ None
none-at [] edge d apart = refl
none-at (b ∷ bounds) edge d apart = grind (
  arith,
  test-from_apart edge b.edge (λ same. apart 0 (omega arith) (sym same)),
  none-at bounds edge d (λ i h. apart (suc i) (omega arith)),
)

pub rising-at : (bounds : List Bound) (i j : ℕ) (d : Bound) → AreRising bounds → i < j → j < length bounds
    → (get_or bounds i d).edge < (get_or bounds j d).edge
rising-at [] i j d rising less h = absurd (omega arith)
rising-at (b ∷ bounds) i zero d rising less h = absurd (omega arith)
rising-at (b ∷ bounds) zero (suc j) d rising less h = before b bounds rising.0 j d (omega arith)
rising-at (b ∷ bounds) (suc i) (suc j) d rising less h =
    rising-at bounds i j d rising.1 (omega arith) (omega arith)

pub rising-up_to : (bounds : List Bound) (i j : ℕ) (d : Bound) → AreRising bounds → i ≤ j → j < length bounds
    → (get_or bounds i d).edge ≤ (get_or bounds j d).edge
rising-up_to bounds i j d rising h within = grind (arith, eqb_tells, get_or, rising-at)

-- an edge after the last one
pub none-after : (bounds : List Bound) (edge i : ℕ) (last : Bound) → AreRising bounds → i + 1 ≡ length bounds
    → last ≡ get_or bounds i last → last.edge < edge → bound_of bounds edge ≡ None
none-after bounds edge i last rising n is less = none-at bounds edge last
    (λ j h same. let up = rising-up_to bounds j i last rising (omega arith) (omega arith) in
    omega (arith, up, same, ap (λ b. b.edge) is, less))

-- ---- the search

pub partitioned : (bounds : List Bound) (edge : ℕ) → AreRising bounds
    → IsPartitionedBy (λ b. ltb b.edge edge) bounds
partitioned bounds edge rising = grind (arith, rising-up_to)

-- where the edges from the given edge on begin
abbrev pub IsPoint : List Bound → (edge i : ℕ) → Type 0
IsPoint bounds edge i = IsPartitionPoint (λ b. ltb b.edge edge ≡ true) (λ b. ltb b.edge edge ≡ false) bounds i

pub searched-here : (bounds : List Bound) (edge i : ℕ) (b : Bound) → AreRising bounds → i < length bounds
    → b ≡ get_or bounds i b → b.edge ≡ edge → Some b ≡ bound_of bounds edge
searched-here bounds edge i b rising h is e = grind (arith, found-at)

pub searched-other : (bounds : List Bound) (edge i : ℕ) (b : Bound) → AreRising bounds → i < length bounds
    → b ≡ get_or bounds i b → IsPoint bounds edge i → b.edge ≢ edge → None ≡ bound_of bounds edge
searched-other bounds edge i b rising h is point apart =
    sym (none-at bounds edge b (λ j within same. by j within same (ltb j i) refl))
  where
    by : (j : ℕ) → j < length bounds → (get_or bounds j b).edge ≡ edge → (t : Bool) → ltb j i ≡ t → ⊥
    by j within same true less = let below =
        ltb-true (get_or bounds j b).edge edge (point.0 j b (omega arith) (ltb-true j i less)) in
        omega (arith, below, same)
    by j within same false later =
        let more : i ≤ j = ltb-false j i later in
        let from = ltb-false (get_or bounds i b).edge edge (point.1 i b (omega arith) h) in
        let up = rising-up_to bounds i j b rising more within in
        omega (arith, from, up, same, ap (λ x. x.edge) is, apart)

pub searched-past : (bounds : List Bound) (edge i : ℕ) (d : Bound) → length bounds ≤ i → IsPoint bounds edge i
    → None ≡ bound_of bounds edge
searched-past bounds edge i d past point = sym (none-at bounds edge d
    (λ j within same. let below = ltb-true (get_or bounds j d).edge edge
    (point.0 j d (omega arith) (omega arith)) in omega (arith, below, same)))

-- ---- one more bound

pub part_of : (len last : ℕ) (bounds : List Bound) (edge : ℕ) (b : Bound)
    → AllByRecursion (IsPart len last) bounds → bound_of bounds edge ≡ Some b → IsPart len last b
part_of len last [] edge b parts h = absurd (cc)
part_of len last (c ∷ bounds) edge b parts h =
    by (nat_eq edge c.edge) h (part_of len last bounds edge b parts.1)
  where
    by : (t : Bool) → cond t (Some c) (bound_of bounds edge) ≡ Some b
        → (bound_of bounds edge ≡ Some b → IsPart len last b) → IsPart len last b
    by true e rest = subst (IsPart len last) (same_Some c b e) parts.0
    by false e rest = rest e

pub with_bound-nil : (bounds : List Bound) (b : Bound) → (0 < length bounds → ⊥)
    → bounds ++ b ∷ [] ≡ with_bound bounds b
with_bound-nil bounds b h = grind (arith, common_steps)

pub with_bound-set : (bounds : List Bound) (i : ℕ) (last b : Bound) → i + 1 ≡ length bounds
    → last ≡ get_or bounds i last → last.edge ≡ b.edge → slice_set bounds i b ≡ with_bound bounds b
with_bound-set [] i last b n is e = absurd (omega arith)
with_bound-set (c ∷ []) zero last b n is e = grind arith
with_bound-set (c ∷ []) (suc i) last b n is e = absurd (omega arith)
with_bound-set (c ∷ d ∷ bounds) zero last b n is e = absurd (omega arith)
with_bound-set (c ∷ d ∷ bounds) (suc i) last b n is e =
    ap (λ xs. c ∷ xs) (with_bound-set (d ∷ bounds) i last b (omega arith) is e)

pub with_bound-push : (bounds : List Bound) (i : ℕ) (last b : Bound) → i + 1 ≡ length bounds
    → last ≡ get_or bounds i last → last.edge ≢ b.edge → bounds ++ b ∷ [] ≡ with_bound bounds b
with_bound-push [] i last b n is apart = absurd (omega arith)
with_bound-push (c ∷ []) zero last b n is apart = grind arith
with_bound-push (c ∷ []) (suc i) last b n is apart = absurd (omega arith)
with_bound-push (c ∷ d ∷ bounds) zero last b n is apart = absurd (omega arith)
with_bound-push (c ∷ d ∷ bounds) (suc i) last b n is apart =
    ap (λ xs. c ∷ xs) (with_bound-push (d ∷ bounds) i last b (omega arith) is apart)

-- it is the bound of its edge, and the other bounds stay
bound_of-with : (bounds : List Bound) (len : ℕ) (b : Bound) → AreRising bounds
    → AllByRecursion (IsPart len b.edge) bounds → (e : ℕ)
    → bound_of (with_bound bounds b) e ≡ cond (nat_eq e b.edge) (Some b) (bound_of bounds e)
bound_of-with [] len b rising parts e = refl
bound_of-with (c ∷ []) len b rising parts e = grind arith
bound_of-with (c ∷ d ∷ bounds) len b rising parts e =
    ap (λ o. cond (nat_eq e c.edge) (Some c) o) (bound_of-with (d ∷ bounds) len b rising.1 parts.1 e)
    ∙ swapped (nat_eq e c.edge) (nat_eq e b.edge) (Some c) (Some b) (bound_of (d ∷ bounds) e)
    (λ p q. let same = sym (same-from_test e c.edge p) ∙ same-from_test e b.edge q in
    omega (arith, same, rising.0.0, parts.1.0.edge))

all_with : (P : Bound → Type 0) (bounds : List Bound) (b : Bound) → AllByRecursion P bounds → P b
    → AllByRecursion P (with_bound bounds b)
all_with P [] b all h = (h, tt)
all_with P (c ∷ []) b all h = grind arith
all_with P (c ∷ d ∷ bounds) b all h = (all.0, all_with P (d ∷ bounds) b all.1 h)

rising_with : (bounds : List Bound) (len : ℕ) (b : Bound) → AreRising bounds
    → AllByRecursion (IsPart len b.edge) bounds → AreRising (with_bound bounds b)
rising_with [] len b rising parts = (tt, tt)
rising_with (c ∷ []) len b rising parts = grind arith
rising_with (c ∷ d ∷ bounds) len b rising parts = grind (
  arith,
  all_with (λ x. c.edge < x.edge) (d ∷ bounds) b rising.0 (omega (arith, rising.0.0, parts.1.0.edge)),
  rising_with (d ∷ bounds) len b rising.1 parts.1,
)

-- ---- whether the last bound belongs to an edge

pub ends_at-nil : (bounds : List Bound) (edge : ℕ) → (0 < length bounds → ⊥) → ends_at bounds edge ≡ false
ends_at-nil bounds edge h = grind (arith, common_steps)

pub ends_at-last : (bounds : List Bound) (i edge : ℕ) (last : Bound) → i + 1 ≡ length bounds
    → last ≡ get_or bounds i last → ends_at bounds edge ≡ nat_eq last.edge edge
ends_at-last [] i edge last n is = absurd (omega arith)
ends_at-last (c ∷ []) zero edge last n is = ap (λ (x : Bound). nat_eq x.edge edge) (sym is)
ends_at-last (c ∷ []) (suc i) edge last n is = absurd (omega arith)
ends_at-last (c ∷ d ∷ bounds) zero edge last n is = absurd (omega arith)
ends_at-last (c ∷ d ∷ bounds) (suc i) edge last n is = ends_at-last (d ∷ bounds) i edge last (omega arith) is

-- no bound belongs to a later edge
pub ends-bound : (bounds : List Bound) (len edge : ℕ) → AreRising bounds
    → AllByRecursion (IsPart len edge) bounds → is_some (bound_of bounds edge) ≡ ends_at bounds edge
ends-bound [] len edge rising parts = refl
ends-bound (c ∷ []) len edge rising parts = grind arith
ends-bound (c ∷ d ∷ bounds) len edge rising parts =
    ap (λ b. is_some (cond b (Some c) (bound_of (d ∷ bounds) edge)))
    (test-from_apart edge c.edge (λ same. omega (arith, same, rising.0.0, parts.1.0.edge)))
    ∙ ends-bound (d ∷ bounds) len edge rising.1 parts.1

-- ---- a value that is bound

module _ (text new : List ℕ) (edge : ℕ) (value : List ℕ) (bounds : List Bound) (b : Bound)
    (grew : BeginsWith text new) (held : BoundsAreHeld (length text) edge bounds)
    (is : IsBoundTo new edge value b) where
  parts_here : AllByRecursion (IsPart (length text) b.edge) bounds
  parts_here = subst (λ n. AllByRecursion (IsPart (length text) n) bounds) (sym is.edge) held.parts

  pub bound-now : (e : ℕ) → lookup (λ x. nat_eq e x) (values_of new (with_bound bounds b))
      ≡ cond (nat_eq e edge) (Some value) (lookup (λ x. nat_eq e x) (values_of text bounds))
  bound-now e =
      values_at new (with_bound bounds b) e
      ∙ ap (option_map (λ b. slice_range new b.start b.end))
      (bound_of-with bounds (length text) b held.rising parts_here e)
      ∙ by (nat_eq e b.edge)
      ∙ ap (λ n. cond (nat_eq e n) (Some (slice_range new b.start b.end))
      (lookup (λ x. nat_eq e x) (values_of new bounds))) is.edge
      ∙ ap (λ v. cond (nat_eq e edge) (Some v) (lookup (λ x. nat_eq e x) (values_of new bounds))) is.is
      ∙ ap (λ vs. cond (nat_eq e edge) (Some value) (lookup (λ x. nat_eq e x) vs))
      (values_kept text new edge bounds grew held.parts)
    where
      by : (t : Bool) → option_map (λ b. slice_range new b.start b.end) (cond t (Some b) (bound_of bounds e))
          ≡ cond t (Some (slice_range new b.start b.end)) (lookup (λ x. nat_eq e x) (values_of new bounds))
      by true = refl
      by false = sym (values_at new bounds e)

  pub held-now : BoundsAreHeld (length new) edge (with_bound bounds b)
  held-now = record {
    parts = all_with (IsPart (length new) edge) bounds b
        (parts_grow (length text) (length new) edge bounds (longer text new grew) held.parts)
        (record { edge = omega (arith, is.edge); rises = is.rises; ends = is.ends });
    rising = rising_with bounds (length text) b held.rising parts_here;
  }
