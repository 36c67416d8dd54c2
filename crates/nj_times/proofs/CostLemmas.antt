-- The costs of edges, and the makers that cost the most.
use Rattle.std.proofs.Common.{◌≡◌, ◌≢◌, ℕ, zero, suc, ◌<◌, ◌≤◌, ◌+◌, ◌*◌, ◌^◌, Bool, true, false}
use Rattle.std.proofs.Common.{Option, Some, None, inl, inr, List, [], ◌∷◌, length, map, max, set, drop}
use Rattle.std.proofs.Common.{replicate}
use Rattle.std.proofs.Common.{refl, sym, ap, ap₂, ◌∙◌, subst, arith}
use Rattle.std.specs.Prelude.{Contains, option_map, slice_get, slice_index, unwrap_or, if◌then◌else◌, ◌==◌}
use Rattle.std.proofs.lemmas.Bool.{cases_eq, cases_lt, eqb-true, eqb-false, eq-eqb, ne_eqb}
use Rattle.std.proofs.lemmas.List.{get_or-set_same, get_or-set_other, get_or_default, length-set, length-map}
use Rattle.nj_names.specs.Files.{AreFiles}
use Rattle.nj_names.specs.declared.files.FileNo.{FileNo}
use Rattle.nj_cycles.specs.Cycles.{AreAfterNeeds}
use Rattle.nj_edges.specs.declared.edges.EdgeNo.{EdgeNo}
use Rattle.nj_edges.specs.Edges.{EdgePaths, edge_at, inputs_of, maker_of}
use Rattle.nj_edges.specs.Needs.{makers_of_inputs}
use Rattle.nj_times.specs.Times.{time_at}
use Rattle.nj_times.specs.Inside.CostsHeld.{AreCosted, AreCosts, cost_held, cost_of, costliest, first_with}
use Rattle.nj_times.specs.Inside.CostsHeld.{greatest}

-- ---- the greatest cost

-- one more maker
pub next_greatest : (costs : List ℕ) (makers : List (Option ℕ)) (index : ℕ) (maker : Option ℕ) (most : ℕ)
    → slice_get makers index ≡ Some maker
    → max (max (cost_of costs maker) most) (greatest costs (drop (index + 1) makers))
    ≡ max most (greatest costs (drop index makers))
next_greatest costs [] index maker most at = absurd (cc)
next_greatest costs (first ∷ makers) zero maker most at =
    let same : first ≡ maker = cc in
    subst (λ m. max (max (cost_of costs maker) most) (greatest costs makers)
    ≡ max most (max (cost_of costs m) (greatest costs makers))) (sym same) (omega arith)
next_greatest costs (first ∷ makers) (suc index) maker most at =
    subst (λ n. max (max (cost_of costs maker) most) (greatest costs (drop n (first ∷ makers)))
    ≡ max most (greatest costs (drop index makers)))
    (let e : suc (index + 1) ≡ suc index + 1 = omega arith in e)
    (next_greatest costs makers index maker most at)

-- no maker is left
pub all_greatest : (costs : List ℕ) (makers : List (Option ℕ)) (index most : ℕ) → length makers ≤ index
    → max most (greatest costs (drop index makers)) ≡ most
all_greatest costs [] zero most le = omega arith
all_greatest costs [] (suc index) most le = omega arith
all_greatest costs (first ∷ makers) zero most le = absurd (omega arith)
all_greatest costs (first ∷ makers) (suc index) most le = all_greatest costs makers index most (omega arith)

-- no maker costs more
pub at_most : (costs : List ℕ) (makers : List (Option ℕ)) (place : ℕ) (maker : Option ℕ)
    → slice_get makers place ≡ Some maker → cost_of costs maker ≤ greatest costs makers
at_most costs [] place maker at = absurd (cc)
at_most costs (first ∷ makers) zero maker at =
    let same : first ≡ maker = cc in
    subst (λ m. cost_of costs m ≤ max (cost_of costs first) (greatest costs makers)) same (omega arith)
at_most costs (first ∷ makers) (suc place) maker at =
    let rest = at_most costs makers place maker at in omega (arith, rest)

-- the place of a maker
pub placed : (makers : List (Option ℕ)) (maker : ℕ) (c : Contains makers (Some maker))
    → slice_get makers c.0 ≡ Some (Some maker)
placed [] maker c = absurd (omega (arith, c.1))
placed (first ∷ makers) maker (zero, lt, is) = ap Some is
placed (first ∷ makers) maker (suc k, lt, is) = placed makers maker (k, omega arith, is)

pub contains_at : (makers : List (Option ℕ)) (place maker : ℕ) → slice_get makers place ≡ Some (Some maker)
    → Contains makers (Some maker)
contains_at [] place maker at = absurd (cc)
contains_at (first ∷ makers) zero maker at = (0, omega arith, (let same : first ≡ Some maker = cc in same))
contains_at (first ∷ makers) (suc place) maker at =
    let rest = contains_at makers place maker at in (suc rest.0, omega (arith, rest.1), rest.2)

-- ---- the first maker with a cost

-- the maker is the first one with the given cost
abbrev pub IsFirstWith : (costs : List ℕ) → (wanted : ℕ) → (makers : List (Option ℕ)) → (maker : ℕ) → Type 0
IsFirstWith costs wanted makers maker = (place : ℕ) × (slice_get makers place ≡ Some (Some maker))
    × (slice_index costs maker ≡ wanted) × ((later other : ℕ) → slice_get makers later ≡ Some (Some other)
    → slice_index costs other ≡ wanted → place ≤ later)

pub first_with_is : (costs : List ℕ) (wanted : ℕ) (makers : List (Option ℕ)) (maker : ℕ)
    → first_with costs wanted makers ≡ Some maker → IsFirstWith costs wanted makers maker
first_with_is costs wanted [] maker is = absurd (cc)
first_with_is costs wanted (first ∷ makers) maker is =
    by (cost_of costs first == wanted) refl (first_with_is costs wanted makers maker)
  where
    by : (b : Bool) → (cost_of costs first == wanted) ≡ b
        → (first_with costs wanted makers ≡ Some maker → IsFirstWith costs wanted makers maker)
        → IsFirstWith costs wanted (first ∷ makers) maker
    by true here later =
        let same : first ≡ Some maker = sym (ap (λ b. if b then first else first_with costs wanted makers)
        here) ∙ is in (
          0,
          ap Some same,
          sym (ap (cost_of costs) same) ∙ eqb-true (cost_of costs first) wanted here,
          λ place other at cost. omega arith,
        )
    by false not later =
        let rest = later (sym (ap (λ b. if b then first else first_with costs wanted makers) not) ∙ is) in
        (suc rest.0, rest.1, rest.2, after rest)
      where
        after : (rest : IsFirstWith costs wanted makers maker) → (place other : ℕ)
            → slice_get (first ∷ makers) place ≡ Some (Some other) → slice_index costs other ≡ wanted
            → suc rest.0 ≤ place
        after rest zero other at cost =
            let same : first ≡ Some other = cc in
            absurd (eqb-false (cost_of costs first) wanted not (ap (cost_of costs) same ∙ cost))
        after rest (suc place) other at cost =
            let below = rest.3 place other at cost in omega (arith, below)

-- one more maker with another cost
pub next_with : (costs : List ℕ) (wanted : ℕ) (makers : List (Option ℕ)) (index : ℕ) (maker : Option ℕ)
    → slice_get makers index ≡ Some maker → (cost_of costs maker ≡ wanted → ⊥)
    → first_with costs wanted (drop (index + 1) makers) ≡ first_with costs wanted (drop index makers)
next_with costs wanted [] index maker at differs = absurd (cc)
next_with costs wanted (first ∷ makers) zero maker at differs =
    let same : first ≡ maker = cc in
    sym (ap (λ b. if b then first else first_with costs wanted makers)
    (ne_eqb (cost_of costs first) wanted (λ is. differs (ap (cost_of costs) (sym same) ∙ is))))
next_with costs wanted (first ∷ makers) (suc index) maker at differs =
    subst (λ n. first_with costs wanted (drop n (first ∷ makers))
    ≡ first_with costs wanted (drop index makers))
    (let e : suc (index + 1) ≡ suc index + 1 = omega arith in e)
    (next_with costs wanted makers index maker at differs)

-- a maker with the cost
pub here_with : (costs : List ℕ) (wanted : ℕ) (makers : List (Option ℕ)) (index : ℕ) (maker : Option ℕ)
    → slice_get makers index ≡ Some maker → cost_of costs maker ≡ wanted
    → maker ≡ first_with costs wanted (drop index makers)
here_with costs wanted [] index maker at is = absurd (cc)
here_with costs wanted (first ∷ makers) zero maker at is =
    let same : first ≡ maker = cc in
    sym same ∙ sym (ap (λ b. if b then first else first_with costs wanted makers)
    (eq-eqb (cost_of costs first) wanted (ap (cost_of costs) same ∙ is)))
here_with costs wanted (first ∷ makers) (suc index) maker at is =
    here_with costs wanted makers index maker at is

-- ---- makers by the numbers of their edges

-- there is a maker at each place of an input
maker_there : (makers : List (Option ℕ)) (index : ℕ) (found : Option (Option ℕ))
    → index < length makers → found ≡ slice_get makers index
    → slice_get makers index ≡ Some (unwrap_or found None)
maker_there [] index found lt is = absurd (omega arith)
maker_there (first ∷ makers) zero found lt is = sym (ap (λ o. Some (unwrap_or o None)) is)
maker_there (first ∷ makers) (suc index) found lt is = maker_there makers index found (omega arith) is

abbrev number_of : Option (Option EdgeNo) → Option (Option ℕ)
number_of found = option_map (λ (m : Option EdgeNo). option_map (λ (e : EdgeNo). e.0) m) found

number_or_none : (found : Option (Option EdgeNo))
    → unwrap_or (number_of found) None ≡ option_map (λ (e : EdgeNo). e.0) (unwrap_or found None)
number_or_none None = refl
number_or_none (Some maker) = refl

pub maker_number : (edges : List EdgePaths) (files : List (List ℕ)) (numbers : List FileNo) (edge index : ℕ)
    (found : Option (Option EdgeNo)) (maker : Option EdgeNo)
    → AreFiles files numbers (inputs_of (edge_at edges edge)) → index < length numbers
    → number_of found ≡ slice_get (makers_of_inputs edges edge) index → maker ≡ unwrap_or found None
    → slice_get (makers_of_inputs edges edge) index ≡ Some (option_map (λ (e : EdgeNo). e.0) maker)
maker_number edges files numbers edge index found maker are lt at is =
    let inputs = inputs_of (edge_at edges edge) in
    let counted = sym (length-map numbers (λ (file : FileNo). slice_get files file.0)) ∙ ap length are
    ∙ length-map inputs (λ (path : List ℕ). Some path) in
    maker_there (makers_of_inputs edges edge) index (number_of found)
    (let n = length-map inputs (maker_of edges) in omega (arith, counted, n, lt)) at
    ∙ ap (λ (m : Option ℕ). Some m) (number_or_none found ∙ sym (ap (option_map (λ (e : EdgeNo). e.0)) is))

-- some maker has the greatest cost
some_greatest : (costs : List ℕ) (makers : List (Option ℕ)) (wanted : ℕ) → wanted ≡ greatest costs makers
    → 0 < wanted → first_with costs wanted makers ≢ None
some_greatest costs [] wanted is above none = absurd (omega arith)
some_greatest costs (first ∷ makers) wanted is above none =
    by (cost_of costs first == wanted) refl (λ rest. some_greatest costs makers wanted rest above)
  where
    by : (b : Bool) → (cost_of costs first == wanted) ≡ b
        → (wanted ≡ greatest costs makers → first_with costs wanted makers ≢ None) → ⊥
    by true here later =
        let cost = eqb-true (cost_of costs first) wanted here in
        let source : first ≡ None =
        sym (ap (λ b. if b then first else first_with costs wanted makers) here) ∙ none in
        let zero_cost : cost_of costs first ≡ 0 = ap (cost_of costs) source in
        omega (arith, cost, zero_cost)
    by false not later =
        let differs = eqb-false (cost_of costs first) wanted not in
        later (elim (cases_lt (cost_of costs first) (greatest costs makers)) [
          | inl below ↦ (let e : wanted ≡ greatest costs makers = omega arith in e)
          | inr above_rest ↦ absurd (differs (omega arith))
        ])
        (sym (ap (λ b. if b then first else first_with costs wanted makers) not) ∙ none)

-- ---- the costliest maker

-- nothing took time before
pub none_costliest : (costs : List ℕ) (makers : List (Option ℕ)) → costliest costs makers ≡ None
    → greatest costs makers ≡ 0
none_costliest costs makers is = by (greatest costs makers == 0) refl
  where
    by : (b : Bool) → (greatest costs makers == 0) ≡ b → greatest costs makers ≡ 0
    by true none = eqb-true (greatest costs makers) 0 none
    by false some =
        let above : 0 < greatest costs makers = (let differs = eqb-false (greatest costs makers) 0 some in
        elim (cases_lt 0 (greatest costs makers)) [ inl lt ↦ lt | inr le ↦ absurd (differs (omega arith)) ])
        in
        absurd (some_greatest costs makers (greatest costs makers) refl above
        (sym (ap (λ b. if b then None else first_with costs (greatest costs makers) makers) some) ∙ is))

-- the first maker with the greatest cost, which is above 0
pub some_costliest : (costs : List ℕ) (makers : List (Option ℕ)) (maker : ℕ)
    → costliest costs makers ≡ Some maker
    → (0 < greatest costs makers) × IsFirstWith costs (greatest costs makers) makers maker
some_costliest costs makers maker is = by (greatest costs makers == 0) refl
  where
    by : (b : Bool) → (greatest costs makers == 0) ≡ b
        → (0 < greatest costs makers) × IsFirstWith costs (greatest costs makers) makers maker
    by true none =
        absurd (let e : None ≡ Some maker =
        sym (ap (λ b. if b then None else first_with costs (greatest costs makers) makers) none) ∙ is in cc)
    by false some = (
      (let differs = eqb-false (greatest costs makers) 0 some in
          elim (cases_lt 0 (greatest costs makers))
          [ inl lt ↦ lt | inr le ↦ absurd (differs (omega arith)) ]),
      first_with_is costs (greatest costs makers) makers maker
          (sym (ap (λ b. if b then None else first_with costs (greatest costs makers) makers) some) ∙ is),
    )

pub costliest_cost : (costs : List ℕ) (makers : List (Option ℕ))
    → cost_of costs (costliest costs makers) ≡ greatest costs makers
costliest_cost costs makers = by (costliest costs makers) refl
  where
    by : (m : Option ℕ) → costliest costs makers ≡ m
        → cost_of costs (costliest costs makers) ≡ greatest costs makers
    by None is = ap (cost_of costs) is ∙ sym (none_costliest costs makers is)
    by (Some maker) is = ap (cost_of costs) is ∙ (some_costliest costs makers maker is).1.2

-- ---- one more edge

-- costs of other edges are kept
greatest_kept : (costs : List ℕ) (edge cost : ℕ) (makers : List (Option ℕ))
    → ((maker : ℕ) → Contains makers (Some maker) → maker ≢ edge)
    → greatest (set costs edge cost) makers ≡ greatest costs makers
greatest_kept costs edge cost [] others = refl
greatest_kept costs edge cost (None ∷ makers) others =
    ap (max 0) (greatest_kept costs edge cost makers
    (λ maker c. others maker (suc c.0, omega (arith, c.1), c.2)))
greatest_kept costs edge cost (Some maker ∷ makers) others =
    ap₂ max (get_or-set_other costs edge maker cost 0 (others maker (0, omega arith, refl)))
    (greatest_kept costs edge cost makers (λ maker c. others maker (suc c.0, omega (arith, c.1), c.2)))

pub greatest_small : (costs : List ℕ) (limit : ℕ) (makers : List (Option ℕ))
    → ((edge : ℕ) → slice_index costs edge ≤ limit) → greatest costs makers ≤ limit
greatest_small costs limit [] small = omega arith
greatest_small costs limit (None ∷ makers) small =
    let rest = greatest_small costs limit makers small in omega (arith, rest)
greatest_small costs limit (Some maker ∷ makers) small =
    let rest = greatest_small costs limit makers small in omega (arith, rest, small maker)

zeros : (count edge : ℕ) → slice_index (replicate count 0) edge ≡ 0
zeros zero edge = refl
zeros (suc count) zero = refl
zeros (suc count) (suc edge) = zeros count edge

-- no edge has its cost yet
pub none_costed : (edges : List EdgePaths) (durations : List (Option ℕ)) (order costs : List ℕ) (count : ℕ)
    → costs ≡ replicate count 0 → length costs ≡ length edges → AreCosted edges durations order 0 costs
none_costed edges durations order costs count are counted = record {
  cost_count = counted;
  cost = λ k before. absurd (omega arith);
  small = λ edge. let none = ap (λ cs. slice_index cs edge) are ∙ zeros count edge in omega (arith, none);
}

module _ (edges : List EdgePaths) (durations : List (Option ℕ)) (order : List ℕ) (turn : ℕ) (costs : List ℕ)
    (after : AreAfterNeeds (makers_of_inputs edges) (length edges) order) (within : turn < length order)
    (held : AreCosted edges durations order turn costs) where
  abbrev next : ℕ
  next = slice_index order turn

  within_costs : next < length costs
  within_costs = let lt = after.within turn within in let n = held.cost_count in omega arith

  -- makers of the edges so far come earlier in the order
  earlier_makers : (k : ℕ) → k < turn + 1 → (maker : ℕ)
      → Contains (makers_of_inputs edges (slice_index order k)) (Some maker) → maker ≢ next
  earlier_makers k before maker c is =
      let at = after.after k maker (omega arith) c in
      after.once at.0 turn (omega (arith, at.1)) within (at.2 ∙ is)

  kept : (k cost : ℕ) → k < turn + 1
      → cost_held edges durations (set costs next cost) (slice_index order k)
      ≡ cost_held edges durations costs (slice_index order k)
  kept k cost before = ap (λ n. time_at durations (slice_index order k) + n)
      (greatest_kept costs next cost (makers_of_inputs edges (slice_index order k)) (earlier_makers k before))

  earlier : (k : ℕ) → k < turn + 1 → slice_index order k ≢ next → k < turn
  earlier k before differs = elim (cases_lt k turn) [
    | inl lt ↦ lt
    | inr ge ↦ absurd (differs (ap (slice_index order) (let e : k ≡ turn = omega arith in e)))
  ]

  pub more_costs : (cost : ℕ) → cost ≡ cost_held edges durations costs next → time_at durations next < 2 ^ 64
      → AreCosted edges durations order (turn + 1) (set costs next cost)
  more_costs cost is small = record {
    cost_count = length-set costs next cost ∙ held.cost_count;
    cost = λ k before. elim (cases_eq (slice_index order k) next) [
      | inl same ↦ ap (slice_index (set costs next cost)) same
          ∙ get_or-set_same costs next cost 0 within_costs ∙ is
          ∙ ap (cost_held edges durations costs) (sym same) ∙ sym (kept k cost before)
      | inr differs ↦ get_or-set_other costs next (slice_index order k) cost 0 differs
          ∙ held.cost k (earlier k before differs) ∙ sym (kept k cost before)
    ];
    small = λ edge. elim (cases_eq edge next) [
      | inl same ↦
          (let at = ap (slice_index (set costs next cost)) same
          ∙ get_or-set_same costs next cost 0 within_costs in
          let before = greatest_small costs (turn * 2 ^ 64) (makers_of_inputs edges next) held.small in
          omega (arith, at, before, is, small))
      | inr differs ↦
          (let at = get_or-set_other costs next edge cost 0 differs in omega (arith, at, held.small edge))
    ];
  }

-- all edges
past_costs : (costs : List ℕ) (edge : ℕ) → length costs ≤ edge → slice_index costs edge ≡ 0
past_costs [] edge le = refl
past_costs (cost ∷ costs) zero le = absurd (omega arith)
past_costs (cost ∷ costs) (suc edge) le = past_costs costs edge (omega arith)

past_times : (durations : List (Option ℕ)) (edge : ℕ) → length durations ≤ edge → time_at durations edge ≡ 0
past_times [] edge le = refl
past_times (duration ∷ durations) zero le = absurd (omega arith)
past_times (duration ∷ durations) (suc edge) le = past_times durations edge (omega arith)

past_makers : (makers : List ℕ → Option ℕ) (costs : List ℕ) (edges : List EdgePaths) (edge : ℕ)
    → length edges ≤ edge → greatest costs (map makers (inputs_of (edge_at edges edge))) ≡ 0
past_makers makers costs [] edge le = refl
past_makers makers costs (e ∷ edges) zero le = absurd (omega arith)
past_makers makers costs (e ∷ edges) (suc edge) le = past_makers makers costs edges edge (omega arith)

pub all_costs : (edges : List EdgePaths) (durations : List (Option ℕ)) (order : List ℕ) (turn : ℕ)
    (costs : List ℕ)
    → AreAfterNeeds (makers_of_inputs edges) (length edges) order → length durations ≡ length edges
    → length order ≤ turn → AreCosted edges durations order turn costs → AreCosts edges durations costs
all_costs edges durations order turn costs after counted end held = record {
  cost_count = held.cost_count;
  cost = λ edge. elim (cases_lt edge (length edges)) [
    | inl lt ↦
        (let place = after.all edge lt in
        let at : slice_index order place.0 ≡ edge = get_or_default order place.0 0 edge place.1 ∙ place.2 in
        subst (λ e. slice_index costs e ≡ cost_held edges durations costs e) at
        (held.cost place.0 (omega (arith, place.1))))
    | inr le ↦
        (let cost = past_costs costs edge (omega (arith, held.cost_count)) in
        let time = past_times durations edge (omega arith) in
        let before = past_makers (maker_of edges) costs edges edge le in omega (arith, cost, time, before))
  ];
}
