-- Sorted edges are determined by what they were before they were sorted.
use Rattle.std.proofs.Common.{◌≡◌, ◌⊎◌, ◌∙◌, ℕ, suc, ◌<◌, ◌≤◌, ◌+◌, Bool, true, false, true≢false, cond}
use Rattle.std.proofs.Common.{inl, inr}
use Rattle.std.proofs.Common.{Option, List, [], ◌∷◌, get_or, map, take, refl, sym, ap, arith, subst}
use Rattle.std.specs.Prelude.{⊤, nat_eq, nat_lt, ◌==◌}
use Rattle.std.specs.Ordering.{is_lt, nat_cmp, ordering_then}
use Rattle.std.specs.declared.cmp.Ordering.TheVariants.{Less, Equal, Greater}
use Rattle.std.specs.List.{sum_by}
use Rattle.std.specs.List.Sorted.{IsNonDecreasing, IsNonDecreasingBy, IsSorted}
use Rattle.std.proofs.lemmas.Bool.{cases_eq, eq-eqb, eqb-false, eqb-true, ltb-false, ne_eqb}
use Rattle.std.proofs.lemmas.List.{get_or-map, length-map}
use Rattle.std.proofs.lemmas.List.Sums.{sum_by-cons}
use Rattle.std.proofs.lemmas.List.Sorted.{sum_by-IsPermutation}
use Rattle.nj_edges.specs.declared.edges.EdgeNo.{EdgeNo}
use Rattle.nj_times.specs.Laws.{OneListIsSlowest}
use Rattle.nj_times.specs.Slowest.{slowest_first}
use Rattle.nj_times.specs.Times.{time_at}

-- ---- how often a number is in a list

abbrev one_if : (wanted number : ℕ) → ℕ
one_if wanted number = cond (number == wanted) 1 0

abbrev count : (wanted : ℕ) → List ℕ → ℕ
count wanted numbers = sum_by (one_if wanted) numbers

counted : (wanted number : ℕ) (numbers : List ℕ)
    → count wanted (number ∷ numbers) ≡ one_if wanted number + count wanted numbers
counted wanted number numbers = sum_by-cons (one_if wanted) number numbers

one_itself : (number : ℕ) → one_if number number ≡ 1
one_itself number =
    let one : one_if number number ≡ 1 = ap (λ b. cond b 1 0) (eq-eqb number number refl) in one

abbrev Among : List ℕ → ℕ → Type 0
Among [] wanted = ⊥
Among (number ∷ numbers) wanted = (number ≡ wanted) ⊎ Among numbers wanted

among : (wanted : ℕ) (numbers : List ℕ) → 0 < count wanted numbers → Among numbers wanted
among wanted [] some = absurd (omega (arith, some))
among wanted (number ∷ numbers) some = by (number == wanted) refl (among wanted numbers)
  where
    by : (b : Bool) → (number == wanted) ≡ b → (0 < count wanted numbers → Among numbers wanted)
        → Among (number ∷ numbers) wanted
    by true is later = inl (eqb-true number wanted is)
    by false other later =
        let none : one_if wanted number ≡ 0 = ap (λ b. cond b 1 0) other in
        let all = counted wanted number numbers in inr (later (omega (arith, some, none, all)))

-- ---- the order

-- an edge comes before another one, or is the same
abbrev IsBefore : (durations : List (Option ℕ)) → (edge other : ℕ) → Type 0
IsBefore durations edge other =
    (time_at durations other < time_at durations edge)
    ⊎ ((time_at durations edge ≡ time_at durations other) × (edge ≤ other))

not_less : (a b x y : ℕ) → is_lt (ordering_then (nat_cmp a b) (nat_cmp x y)) ≡ false
    → (b < a) ⊎ ((a ≡ b) × (y ≤ x))
not_less a b x y is = by (nat_lt a b) (a == b) (nat_lt x y) refl refl refl is
  where
    by : (l e m : Bool) → nat_lt a b ≡ l → (a == b) ≡ e → nat_lt x y ≡ m
        → is_lt (ordering_then (cond l Less (cond e Equal Greater))
        (cond m Less (cond (x == y) Equal Greater)))
        ≡ false
        → (b < a) ⊎ ((a ≡ b) × (y ≤ x))
    by true e m less even least is = absurd (true≢false is)
    by false true true less even least is = absurd (true≢false is)
    by false true false less even least is = inr (eqb-true a b even, ltb-false x y least)
    by false false m less even least is =
        let most = ltb-false a b less in
        let apart = eqb-false a b even in
        inl (omega (arith, most, apart))

module _ (durations : List (Option ℕ)) where
  falls : (edge other : ℕ) → is_lt (slowest_first durations other edge) ≡ false
      → IsBefore durations edge other
  falls edge other is = by (not_less (time_at durations edge) (time_at durations other) other edge is)
    where
      by : (time_at durations other < time_at durations edge)
          ⊎ ((time_at durations edge ≡ time_at durations other) × (edge ≤ other))
          → IsBefore durations edge other
      by is = is

  joined : (edge other last : ℕ) → IsBefore durations edge other → IsBefore durations other last
      → IsBefore durations edge last
  joined edge other last (inl a) (inl b) = inl (omega (arith, a, b))
  joined edge other last (inl a) (inr (b, c)) = inl (omega (arith, a, b))
  joined edge other last (inr (a, c)) (inl b) = inl (omega (arith, a, b))
  joined edge other last (inr (a, c)) (inr (b, d)) = inr (a ∙ b, omega (arith, c, d))

  same : (edge other : ℕ) → IsBefore durations edge other → IsBefore durations other edge → edge ≡ other
  same edge other (inl a) (inl b) = absurd (omega (arith, a, b))
  same edge other (inl a) (inr (b, c)) = absurd (omega (arith, a, b))
  same edge other (inr (a, c)) (inl b) = absurd (omega (arith, a, b))
  same edge other (inr (a, c)) (inr (b, d)) = omega (arith, c, d)

  abbrev IsBeforeAll : (edge : ℕ) → List ℕ → Type 0
  IsBeforeAll edge [] = ⊤
  IsBeforeAll edge (other ∷ others) = IsBefore durations edge other × IsBeforeAll edge others

  abbrev AreInOrder : List ℕ → Type 0
  AreInOrder [] = ⊤
  AreInOrder (edge ∷ edges) = IsBeforeAll edge edges × AreInOrder edges

  before_all : (edge other : ℕ) (others : List ℕ) → IsBefore durations edge other → IsBeforeAll other others
      → IsBeforeAll edge others
  before_all edge other [] first rest = tt
  before_all edge other (last ∷ others) first rest =
      (joined edge other last first rest.0, before_all edge other others first rest.1)

  in_order : (edges : List ℕ) → IsSorted (slowest_first durations) edges → AreInOrder edges
  in_order [] sorted = tt
  in_order (edge ∷ []) sorted = (tt, tt)
  in_order (edge ∷ other ∷ others) sorted =
      let first = falls edge other (sorted 0 0 (omega arith) (omega arith)) in
      let rest = in_order (other ∷ others) (λ k d low high.
      let next : suc k + 1 ≡ suc (k + 1) = omega arith in
      subst (λ n. is_lt (slowest_first durations (get_or (edge ∷ other ∷ others) n d)
      (get_or (other ∷ others) k d)) ≡ false) next (sorted (suc k) d (omega arith) (omega (arith, high)))) in
      ((first, before_all edge other others first rest.0), rest)

  after_first : (edge : ℕ) (edges : List ℕ) → IsBeforeAll edge edges → (later : ℕ) → Among edges later
      → IsBefore durations edge later
  after_first edge [] all later there = absurd there
  after_first edge (other ∷ edges) all later (inl is) =
      let e : other ≡ later = is in subst (λ n. IsBefore durations edge n) e all.0
  after_first edge (other ∷ edges) all later (inr there) = after_first edge edges all.1 later there

  same_order : (edges others : List ℕ) → AreInOrder edges → AreInOrder others
      → ((wanted : ℕ) → count wanted edges ≡ count wanted others) → edges ≡ others
  same_order [] [] ordered ordered2 counts = refl
  same_order [] (other ∷ others) ordered ordered2 counts =
      absurd (let none = counts other in
      let one = one_itself other in
      let all = counted other other others in omega (arith, none, one, all))
  same_order (edge ∷ edges) [] ordered ordered2 counts =
      absurd (let none = counts edge in
      let one = one_itself edge in
      let all = counted edge edge edges in omega (arith, none, one, all))
  same_order (edge ∷ edges) (other ∷ others) ordered ordered2 counts =
      let here : edge ≡ other =
      by
      (among edge (other ∷ others) (let is = counts edge in
      let one = one_itself edge in
      let all = counted edge edge edges in omega (arith, is, one, all)))
      (among other (edge ∷ edges) (let is = counts other in
      let one = one_itself other in
      let all = counted other other others in omega (arith, is, one, all)))
      in
      ap (λ n. n ∷ edges) here ∙ ap (λ ns. other ∷ ns)
      (same_order edges others ordered.1 ordered2.1 (λ wanted.
      let both = counts wanted in
      let first = ap (one_if wanted) here in
      let left = counted wanted edge edges in
      let right = counted wanted other others in omega (arith, both, first, left, right)))
    where
      by : Among (other ∷ others) edge → Among (edge ∷ edges) other → edge ≡ other
      by (inl is) there = sym is
      by (inr there) (inl is) = is
      by (inr there) (inr there2) =
          same edge other (after_first edge edges ordered.0 other there2)
          (after_first other others ordered2.0 edge there)

pub one_slowest : OneListIsSlowest
one_slowest durations edges amount slowest other is also =
    is.front
    ∙ ap (take amount) (same_order durations is.sorted also.sorted (in_order durations is.sorted is.falling)
    (in_order durations also.sorted also.falling) (λ wanted.
    sum_by-IsPermutation (one_if wanted) edges is.sorted is.permuted
    ∙ sym (sum_by-IsPermutation (one_if wanted) edges also.sorted also.permuted)))
    ∙ sym also.front

-- ---- numbers of edges

-- the numbers of edges that are sorted by them do not fall
pub numbers-up : (edges : List EdgeNo) → IsNonDecreasingBy (λ (e : EdgeNo). e.0) edges
    → IsNonDecreasing (map (λ (e : EdgeNo). e.0) edges)
numbers-up edges up = λ i j default low high.
    let none : EdgeNo = record { 0 = default } in
    let count = length-map edges (λ (e : EdgeNo). e.0) in
    let first = get_or-map (λ (e : EdgeNo). e.0) edges i none default (omega (arith, count, low, high)) in
    let second = get_or-map (λ (e : EdgeNo). e.0) edges j none default (omega (arith, count, high)) in
    let rise = up i j none low (omega (arith, count, high)) in
    omega (arith, first, second, rise)

pub even-turned : (a b : ℕ) → nat_eq a b ≡ nat_eq b a
even-turned a b = elim (cases_eq a b) [
  | inl same ↦ eq-eqb a b same ∙ sym (eq-eqb b a (sym same))
  | inr apart ↦ ne_eqb a b apart ∙ sym (ne_eqb b a (λ e. apart (sym e)))
]
