-- The path that is followed is critical.
use Rattle.std.proofs.Common.{Bool, true, false, true≢false, get_or, map, take}
use Rattle.std.proofs.Common.{◌≡◌, ◌⊎◌, ℕ, zero, suc, ◌<◌, ◌≤◌, ◌+◌, Option, Some, None, inl, inr}
use Rattle.std.proofs.Common.{List, [], ◌∷◌, ◌++◌, length, refl, sym, ap, ◌∙◌, ◌-◌, subst, arith}
use Rattle.std.proofs.Common.{append_assoc}
use Rattle.std.proofs.lemmas.List.{append-nil, get_or_default}
use Rattle.std.specs.Prelude.{Contains, IfSome, option_map, slice_get, slice_index, nat_lt, ◌==◌, ◌&&◌, ◌||◌}
use Rattle.std.proofs.lemmas.Bool.{and_from, and_parts, cases_eq, cases_lt, eq-eqb, eqb-false, eqb-true}
use Rattle.std.proofs.lemmas.Bool.{lt-ltb, ltb-false, ltb-true, or_cases}
use Rattle.std.proofs.lemmas.List.Elements.{Contains-append_left, Contains-push, Contains-push_cases}
use Rattle.nj_cycles.specs.Cycles.{AreAfterNeeds, Needs}
use Rattle.nj_edges.specs.Distances.{IsNeeded}
use Rattle.nj_edges.specs.declared.edges.EdgeNo.{EdgeNo}
use Rattle.nj_edges.specs.Edges.{EdgePaths}
use Rattle.nj_edges.specs.Needs.{makers_of_inputs}
use Rattle.nj_times.specs.Times.{sum_of, time_at}
use Rattle.nj_times.specs.Critical.{AreNeededBy, ComesFirst, EndsInTime, IsChain, IsCriticalPath}
use Rattle.nj_times.specs.Critical.{IsInputBefore, IsLeftOf, IsNeededChain}
use Rattle.nj_times.specs.Laws.{AreEnds, BuildsTakeTheCriticalPath, OnePathIsCritical}
use Rattle.nj_times.specs.Inside.CostsHeld.{AreCosts, IsBefore, IsCostliest, IsFollowed, IsLast, IsOpen}
use Rattle.nj_times.specs.Inside.CostsHeld.{cost_of, costliest, greatest, is_costlier, is_next}
use Rattle.nj_times.proofs.CostLemmas.{at_most, contains_at, costliest_cost, placed, some_costliest}
use Rattle.nj_times.proofs.OrderLemmas.{needs_step}

-- ---- chains

-- the rest of a chain
rest_needed : (edges : List EdgePaths) (files : List (List ℕ)) (edge : ℕ) (chain : List ℕ)
    → IsNeededChain edges files (edge ∷ chain) → IsNeededChain edges files chain
rest_needed edges files edge [] is = record { linked = tt; needed = λ e c. absurd (omega (arith, c.1)) }
rest_needed edges files edge (maker ∷ chain) is = record {
  linked = is.linked.1;
  needed = λ e c. is.needed e (suc c.0, omega (arith, c.1), c.2);
}

-- an edge that is needed needs a chain from it on
chain_needed : (edges : List EdgePaths) (files : List (List ℕ)) (edge : ℕ) (chain : List ℕ)
    → IsNeeded edges files edge → IsChain edges (edge ∷ chain) → (e : ℕ) → Contains (edge ∷ chain) e
    → IsNeeded edges files e
chain_needed edges files edge chain needed linked e (zero, lt, is) = subst (IsNeeded edges files) is needed
chain_needed edges files edge [] needed linked e (suc k, lt, is) = absurd (omega arith)
chain_needed edges files edge (maker ∷ chain) needed linked e (suc k, lt, is) =
    chain_needed edges files maker chain (needs_step edges files edge maker needed linked.0) linked.1 e
    (k, omega arith, is)

module _ (edges : List EdgePaths) (durations : List (Option ℕ)) (costs : List ℕ)
    (are : AreCosts edges durations costs) where
  makers : ℕ → List (Option ℕ)
  makers = makers_of_inputs edges

  maker_at_most : (edge maker : ℕ) → Needs (makers_of_inputs edges) edge maker
      → slice_index costs maker ≤ greatest costs (makers_of_inputs edges edge)
  maker_at_most edge maker needs =
      at_most costs (makers_of_inputs edges edge) needs.0 (Some maker)
      (placed (makers_of_inputs edges edge) maker needs)

  -- no chain sums to more than its last edge costs
  bounded : (edge : ℕ) (chain : List ℕ) → IsChain edges (edge ∷ chain)
      → sum_of durations (edge ∷ chain) ≤ slice_index costs edge
  bounded edge [] linked = let cost = are.cost edge in omega (arith, cost)
  bounded edge (maker ∷ chain) linked =
      let cost = are.cost edge in
      let most = maker_at_most edge maker linked.0 in
      let rest = bounded maker chain linked.1 in
      omega (arith, cost, most, rest)

  followed_sum : (path : List ℕ) (next : Option ℕ) → IsFollowed edges costs next path
      → sum_of durations path ≡ cost_of costs next
  followed_sum [] None is = refl
  followed_sum [] (Some edge) is = absurd is
  followed_sum (first ∷ path) None is = absurd (cc)
  followed_sum (first ∷ path) (Some edge) is =
      let rest = followed_sum path (costliest costs (makers_of_inputs edges edge)) is.1 in
      let before = costliest_cost costs (makers_of_inputs edges edge) in
      let cost = are.cost edge in
      let time = ap (time_at durations) is.0 in
      omega (arith, rest, before, cost, time)

  followed_chain : (path : List ℕ) (next : Option ℕ) → IsFollowed edges costs next path → IsChain edges path
  followed_chain [] next is = tt
  followed_chain (first ∷ []) next is = tt
  followed_chain (first ∷ maker ∷ path) None is = absurd (cc)
  followed_chain (first ∷ maker ∷ path) (Some edge) is = (
    by (costliest costs (makers_of_inputs edges edge)) refl,
    followed_chain (maker ∷ path) (costliest costs (makers_of_inputs edges edge)) is.1,
  )
    where
      by : (next : Option ℕ) → costliest costs (makers_of_inputs edges edge) ≡ next
          → Needs (makers_of_inputs edges) first maker
      by None none = absurd (let e : maker ∷ path ≡ [] =
          subst (λ o. IsFollowed edges costs o (maker ∷ path)) none is.1 in cc)
      by (Some next) some =
          let follows = subst (λ o. IsFollowed edges costs o (maker ∷ path)) some is.1 in
          let at = (some_costliest costs (makers_of_inputs edges edge) next some).1 in
          let needs = contains_at (makers_of_inputs edges edge) at.0 next at.1 in
          subst (λ e. Needs (makers_of_inputs edges) e maker) (sym is.0)
          (subst (λ m. Needs (makers_of_inputs edges) edge m) (sym follows.0) needs)

  -- of the chains from an edge with the greatest sum, the followed one comes first
  followed_left : (edge : ℕ) (path others : List ℕ)
      → IsFollowed edges costs (costliest costs (makers_of_inputs edges edge)) path
      → IsChain edges (edge ∷ others) → sum_of durations (edge ∷ others) ≡ slice_index costs edge
      → IsLeftOf edges edge path others
  followed_left edge [] others follows linked sum = tt
  followed_left edge (first ∷ path) others follows linked sum =
      by (costliest costs (makers_of_inputs edges edge)) refl others linked sum
      (λ rest is chain total. followed_left first path rest is chain total)
    where
      by : (next : Option ℕ) → costliest costs (makers_of_inputs edges edge) ≡ next → (others : List ℕ)
          → IsChain edges (edge ∷ others) → sum_of durations (edge ∷ others) ≡ slice_index costs edge
          → ((rest : List ℕ) → IsFollowed edges costs (costliest costs (makers_of_inputs edges first)) path
          → IsChain edges (first ∷ rest) → sum_of durations (first ∷ rest) ≡ slice_index costs first
          → IsLeftOf edges first path rest)
          → IsLeftOf edges edge (first ∷ path) others
      by None none others linked sum later =
          absurd (let e : first ∷ path ≡ [] =
          subst (λ o. IsFollowed edges costs o (first ∷ path)) none follows in cc)
      by (Some next) some [] linked sum later =
          let at = some_costliest costs (makers_of_inputs edges edge) next some in
          let cost = are.cost edge in absurd (omega (arith, at.0, cost, sum))
      by (Some next) some (other ∷ others) linked sum later =
          let at = some_costliest costs (makers_of_inputs edges edge) next some in
          let is = subst (λ o. IsFollowed edges costs o (first ∷ path)) some follows in
          let cost = are.cost edge in
          let most = maker_at_most edge other linked.0 in
          let rest = bounded other others linked.1 in
          let costly : slice_index costs other ≡ greatest costs (makers_of_inputs edges edge) =
          omega (arith, cost, most, rest, sum) in
          let rest_sum : sum_of durations (other ∷ others) ≡ slice_index costs other =
          omega (arith, cost, most, rest, sum) in
          elim (cases_eq first other) [
            | inl same ↦ inr (
              same,
              later others
                  (subst (λ e. IsFollowed edges costs (costliest costs (makers_of_inputs edges e)) path)
                  (sym is.0) is.1)
                  (subst (λ e. IsChain edges (e ∷ others)) (sym same) linked.1)
                  (subst (λ e. sum_of durations (e ∷ others) ≡ slice_index costs e) (sym same) rest_sum),
            )
            | inr differs ↦ inl (
              at.1.0,
              subst (λ m. slice_get (makers_of_inputs edges edge) at.1.0 ≡ Some (Some m)) (sym is.0) at.1.1,
              λ later there. strictly edge next other at.1.0 later at.1.1 there (λ e. differs (is.0 ∙ e))
                  (at.1.3 later other there costly),
            )
          ]
        where
          strictly : (edge next other place later : ℕ)
              → slice_get (makers_of_inputs edges edge) place ≡ Some (Some next)
              → slice_get (makers_of_inputs edges edge) later ≡ Some (Some other) → (next ≡ other → ⊥)
              → place ≤ later → place < later
          strictly edge next other place later here there differs le = elim (cases_lt place later) [
            | inl lt ↦ lt
            | inr ge ↦
                (let same : place ≡ later = omega arith in
                let both : Some (Some next) ≡ Some (Some other) =
                sym here ∙ ap (slice_get (makers_of_inputs edges edge)) same ∙ there in
                absurd (differs cc))
          ]

  module _ (files : List (List ℕ)) (among : List ℕ) (needed : AreNeededBy edges files among) where
    -- an edge of a needed chain is among the needed edges
    last_among : (edge : ℕ) (chain : List ℕ) → IsNeededChain edges files (edge ∷ chain) → Contains among edge
    last_among edge chain is = (needed edge).1 (is.needed edge (0, omega arith, refl))

    -- without an edge that took time no chain takes time
    untimed : ((other : ℕ) → Contains among other → time_at durations other ≡ 0) → (others : List ℕ)
        → IsNeededChain edges files others → sum_of durations others ≡ 0
    untimed none [] is = refl
    untimed none (other ∷ others) is =
        let here = none other (last_among other others is) in
        let rest = untimed none others (rest_needed edges files other others is) in
        omega (arith, here, rest)

    -- no needed chain sums to more than the costliest edge costs
    none_longer : (last : ℕ) → IsCostliest durations costs among last → (others : List ℕ)
        → IsNeededChain edges files others → sum_of durations others ≤ slice_index costs last
    none_longer last is [] chain = omega arith
    none_longer last is (other ∷ others) chain = elim (cases_lt 0 (time_at durations other)) [
      | inl timed ↦
          (let most = is.most other (last_among other others chain) timed in
          let bound = bounded other others chain.linked in omega (arith, most, bound))
      | inr untimed ↦
          (let rest = none_longer last is others (rest_needed edges files other others chain) in
          omega (arith, rest, untimed))
    ]

    none_before : (last : ℕ) (path : List ℕ) → IsCostliest durations costs among last
        → IsFollowed edges costs (Some last) (last ∷ path) → (others : List ℕ)
        → IsNeededChain edges files others → EndsInTime durations others
        → sum_of durations others ≡ sum_of durations (last ∷ path) → ComesFirst edges (last ∷ path) others
    none_before last path is follows [] chain timed sum =
        let own = is.timed in absurd (omega (arith, sum, own))
    none_before last path is follows (other ∷ others) chain timed sum =
        let member = last_among other others chain in
        let most = is.most other member timed in
        let bound = bounded other others chain.linked in
        let own = followed_sum (last ∷ path) (Some last) follows in
        let costly : slice_index costs other ≡ slice_index costs last = omega (arith, most, bound, own, sum)
        in
        let least = is.first other member timed costly in
        elim (cases_eq last other) [
          | inl same ↦ inr (
            same,
            followed_left last path others follows.1
                (subst (λ e. IsChain edges (e ∷ others)) (sym same) chain.linked)
                (subst (λ e. sum_of durations (e ∷ others) ≡ slice_index costs e) (sym same)
                (omega (arith, sum, own, costly))),
          )
          | inr differs ↦ inl (elim (cases_lt last other)
              [ inl lt ↦ lt | inr ge ↦ absurd (differs (omega arith)) ])
        ]

    -- the path that is followed from the last edge on
    pub critical : (last : Option ℕ) (path : List ℕ) → IsLast durations costs among last
        → IsFollowed edges costs last path → IsCriticalPath edges files durations path
    critical None path is follows = subst (IsCriticalPath edges files durations) (sym follows) (record {
      chain = record { linked = tt; needed = λ e c. absurd (omega (arith, c.1)) };
      longest = λ others chain. let none = untimed is others chain in omega (arith, none);
      timed = tt;
      first = λ others chain timed sum. tt;
    })
    critical (Some last) [] is follows = absurd follows
    critical (Some last) (first ∷ path) is follows =
        subst (λ e. IsCriticalPath edges files durations (e ∷ path)) (sym follows.0)
        (let from : IsFollowed edges costs (Some last) (last ∷ path) = (refl, follows.1) in
        let own = followed_sum (last ∷ path) (Some last) from in
        let linked = followed_chain (last ∷ path) (Some last) from in record {
          chain = record {
            linked = linked;
            needed = chain_needed edges files last path ((needed last).0 is.member) linked;
          };
          longest = λ others chain. let most = none_longer last is others chain in omega (arith, most, own);
          timed = is.timed;
          first = none_before last path is from;
        })

-- ---- the last edge

costlier : (costs : List ℕ) (edge other : ℕ) → is_costlier costs edge (Some other) ≡ true
    → (slice_index costs other < slice_index costs edge)
    ⊎ ((slice_index costs edge ≡ slice_index costs other) × (edge < other))
costlier costs edge other is =
    elim (or_cases (nat_lt (slice_index costs other) (slice_index costs edge))
    (slice_index costs edge == slice_index costs other && nat_lt edge other) is) [
      | inl more ↦ inl (ltb-true (slice_index costs other) (slice_index costs edge) more)
      | inr both ↦
          (let parts = and_parts (slice_index costs edge == slice_index costs other) (nat_lt edge other) both
          in
          inr (
            eqb-true (slice_index costs edge) (slice_index costs other) parts.0,
            ltb-true edge other parts.1,
          ))
    ]

not_costlier : (costs : List ℕ) (edge other : ℕ) → is_costlier costs edge (Some other) ≡ false
    → (slice_index costs edge ≤ slice_index costs other)
    × (slice_index costs edge ≡ slice_index costs other → other ≤ edge)
not_costlier costs edge other is =
    by (nat_lt (slice_index costs other) (slice_index costs edge)) refl
  where
    by : (b : Bool) → nat_lt (slice_index costs other) (slice_index costs edge) ≡ b
        → (slice_index costs edge ≤ slice_index costs other)
        × (slice_index costs edge ≡ slice_index costs other → other ≤ edge)
    by true more = absurd (true≢false (sym (ap (λ b.
        b || (slice_index costs edge == slice_index costs other && nat_lt edge other)) more) ∙ is))
    by false less =
        let rest : (slice_index costs edge == slice_index costs other && nat_lt edge other) ≡ false =
        sym (ap (λ b. b || (slice_index costs edge == slice_index costs other && nat_lt edge other)) less)
        ∙ is in (
          ltb-false (slice_index costs other) (slice_index costs edge) less,
          λ same. elim (cases_lt edge other) [
            | inl lt ↦ absurd (true≢false (sym (and_from (slice_index costs edge == slice_index costs other)
                (nat_lt edge other) (eq-eqb (slice_index costs edge) (slice_index costs other) same)
                (lt-ltb edge other lt)) ∙ rest))
            | inr ge ↦ ge
          ],
        )

pub new_last : (durations : List (Option ℕ)) (costs among : List ℕ) (last : Option ℕ) (edge : ℕ)
    → IsLast durations costs among last → 0 < time_at durations edge → is_costlier costs edge last ≡ true
    → IsLast durations costs (among ++ edge ∷ []) (Some edge)
new_last durations costs among None edge is timed costly = record {
  member = Contains-push among edge;
  timed = timed;
  most = λ other c own. elim (Contains-push_cases among edge other c) [
    | inl before ↦ (let none = is other before in absurd (omega (arith, none, own)))
    | inr same ↦ (let e = ap (slice_index costs) same in omega (arith, e))
  ];
  first = λ other c own cost. elim (Contains-push_cases among edge other c) [
    | inl before ↦ (let none = is other before in absurd (omega (arith, none, own)))
    | inr same ↦ omega (arith, same)
  ];
}
new_last durations costs among (Some last) edge is timed costly =
    let more = costlier costs edge last costly in record {
      member = Contains-push among edge;
      timed = timed;
      most = λ other c own. elim (Contains-push_cases among edge other c) [
        | inl before ↦ (let most = is.most other before own in elim more [
          | inl above ↦ omega (arith, most, above)
          | inr tie ↦ (let e = tie.0 in omega (arith, most, e))
        ])
        | inr same ↦ (let e = ap (slice_index costs) same in omega (arith, e))
      ];
      first = λ other c own cost. elim (Contains-push_cases among edge other c) [
        | inl before ↦ (let most = is.most other before own in elim more [
          | inl above ↦ absurd (omega (arith, most, above, cost))
          | inr tie ↦
              (let e = tie.0 in let lt = tie.1 in
              let least = is.first other before own
              (let same : slice_index costs other ≡ slice_index costs last = omega (arith, cost, e)
              in same) in
              omega (arith, least, lt))
        ])
        | inr same ↦ omega (arith, same)
      ];
    }

pub same_last : (durations : List (Option ℕ)) (costs among : List ℕ) (last : Option ℕ) (edge : ℕ)
    → IsLast durations costs among last → (0 < time_at durations edge → is_costlier costs edge last ≡ false)
    → IsLast durations costs (among ++ edge ∷ []) last
same_last durations costs among None edge is costly =
    λ other c. elim (Contains-push_cases among edge other c) [
      | inl before ↦ is other before
      | inr same ↦ elim (cases_lt 0 (time_at durations edge)) [
        | inl timed ↦ absurd (true≢false (costly timed))
        | inr none ↦ (let e = ap (time_at durations) same in omega (arith, e, none))
      ]
    ]
same_last durations costs among (Some last) edge is costly = record {
  member = Contains-append_left among (edge ∷ []) last is.member;
  timed = is.timed;
  most = λ other c own. elim (Contains-push_cases among edge other c) [
    | inl before ↦ is.most other before own
    | inr same ↦
        (let less = not_costlier costs edge last
        (costly (subst (λ e. 0 < time_at durations e) (sym same) own)) in
        let most = less.0 in let e = ap (slice_index costs) same in omega (arith, most, e))
  ];
  first = λ other c own cost. elim (Contains-push_cases among edge other c) [
    | inl before ↦ is.first other before own cost
    | inr same ↦
        (let less = not_costlier costs edge last
        (costly (subst (λ e. 0 < time_at durations e) (sym same) own)) in
        let least = less.1 (ap (slice_index costs) same ∙ cost) in omega (arith, least, same))
  ];
}

-- the numbers of the first edges, and one more
pub one_more : (edges : List EdgeNo) (index : ℕ) (default : EdgeNo) → index < length edges
    → map (λ (edge : EdgeNo). edge.0) (take (index + 1) edges)
    ≡ map (λ (edge : EdgeNo). edge.0) (take index edges) ++ (get_or edges index default).0 ∷ []
one_more [] index default lt = absurd (omega arith)
one_more (edge ∷ edges) zero default lt = refl
one_more (edge ∷ edges) (suc index) default lt =
    subst (λ n. map (λ (e : EdgeNo). e.0) (take n (edge ∷ edges))
    ≡ edge.0 ∷ (map (λ (e : EdgeNo). e.0) (take index edges) ++ (get_or edges index default).0 ∷ []))
    (let e : suc (index + 1) ≡ suc index + 1 = omega arith in e)
    (ap (λ (es : List ℕ). edge.0 ∷ es) (one_more edges index default (omega arith)))

-- ---- the path so far

-- no edge yet: the last edge is somewhere in the order
pub open_init : (edges : List EdgePaths) (costs order : List ℕ) (last : Option ℕ)
    → AreAfterNeeds (makers_of_inputs edges) (length edges) order → IfSome last (λ e. e < length edges)
    → IsOpen edges costs order (length order) last last []
open_init edges costs order last after within = record {
  turns = omega arith;
  before = by last within;
  closes = λ rest follows. follows;
}
  where
    by : (last : Option ℕ) → IfSome last (λ e. e < length edges) → IsBefore order (length order) last
    by None lt = tt
    by (Some edge) lt =
        let place = after.all edge lt in
        (place.0, place.1, get_or_default order place.0 0 edge place.1 ∙ place.2)

pub is_some_next : (next : Option ℕ) (edge : ℕ) → is_next next edge ≡ true → next ≡ Some edge
is_some_next None edge is = absurd (true≢false (sym is))
is_some_next (Some next) edge is = ap Some (eqb-true next edge is)

-- the next edge of the path
pub open_taken : (edges : List EdgePaths) (costs order : List ℕ) (turn : ℕ) (last : Option ℕ) (path : List ℕ)
    (edge : ℕ) → AreAfterNeeds (makers_of_inputs edges) (length edges) order → 0 < turn
    → slice_index order (turn - 1) ≡ edge → IsOpen edges costs order turn last (Some edge) path
    → IsOpen edges costs order (turn - 1) last (costliest costs (makers_of_inputs edges edge))
    (path ++ edge ∷ [])
open_taken edges costs order turn last path edge after above at is = record {
  turns = (let le = is.turns in omega (arith, le));
  before = by (costliest costs (makers_of_inputs edges edge)) refl;
  closes = λ rest follows. subst (IsFollowed edges costs last) (sym (append_assoc path (edge ∷ []) rest))
      (is.closes (edge ∷ rest) (refl, follows));
}
  where
    by : (next : Option ℕ) → costliest costs (makers_of_inputs edges edge) ≡ next
        → IsBefore order (turn - 1) next
    by None none = tt
    by (Some next) some =
        let found = (some_costliest costs (makers_of_inputs edges edge) next some).1 in
        let needs = contains_at (makers_of_inputs edges edge) found.0 next found.1 in
        after.after (turn - 1) next (let le = is.turns in omega (arith, le, above))
        (subst (λ e. Needs (makers_of_inputs edges) e next) (sym at) needs)

-- another edge
pub open_passed : (edges : List EdgePaths) (costs order : List ℕ) (turn : ℕ) (last next : Option ℕ)
    (path : List ℕ) → 0 < turn → is_next next (slice_index order (turn - 1)) ≡ false
    → IsOpen edges costs order turn last next path → IsOpen edges costs order (turn - 1) last next path
open_passed edges costs order turn last next path above other is = record {
  turns = (let le = is.turns in omega (arith, le));
  before = by next refl is.before;
  closes = is.closes;
}
  where
    by : (n : Option ℕ) → next ≡ n → IsBefore order turn n → IsBefore order (turn - 1) n
    by None none before = tt
    by (Some edge) some before = (
      before.0,
      elim (cases_lt before.0 (turn - 1)) [
        | inl lt ↦ lt
        | inr ge ↦
            (let below = before.1 in
            let same : before.0 ≡ turn - 1 = omega (arith, below, ge) in
            absurd (eqb-false edge (slice_index order (turn - 1))
            (sym (ap (λ (o : Option ℕ). is_next o (slice_index order (turn - 1))) some) ∙ other)
            (sym before.2 ∙ ap (slice_index order) same)))
      ],
      before.2,
    )

-- no edge is left
pub open_done : (edges : List EdgePaths) (costs order : List ℕ) (turn : ℕ) (last next : Option ℕ)
    (path : List ℕ)
    → turn ≡ 0 → IsOpen edges costs order turn last next path → IsFollowed edges costs last path
open_done edges costs order turn last next path none is = by next refl is.before
  where
    by : (n : Option ℕ) → next ≡ n → IsBefore order turn n → IsFollowed edges costs last path
    by None is_none before = subst (IsFollowed edges costs last) (append-nil path)
        (is.closes [] (subst (λ (o : Option ℕ). IsFollowed edges costs o []) (sym is_none) refl))
    by (Some edge) some before = (let below = before.1 in absurd (omega (arith, below, none)))

-- ---- builds

ends_after : (edges : List EdgePaths) (files : List (List ℕ)) (durations : List (Option ℕ)) (ends : ℕ → ℕ)
    → AreEnds edges files durations ends → (edge : ℕ) (chain : List ℕ)
    → IsNeededChain edges files (edge ∷ chain)
    → sum_of durations (edge ∷ chain) ≤ ends edge
ends_after edges files durations ends are edge [] is =
    let own = are.alone edge (is.needed edge (0, omega arith, refl)) in omega (arith, own)
ends_after edges files durations ends are edge (maker ∷ chain) is =
    let own = are.after edge maker (is.needed edge (0, omega arith, refl)) is.linked.0 in
    let rest = ends_after edges files durations ends are maker chain
    (rest_needed edges files edge (maker ∷ chain) is) in
    omega (arith, own, rest)

pub builds_take : BuildsTakeTheCriticalPath
builds_take edges files durations ends last path is are =
    ends_after edges files durations ends are last path is.chain

-- ---- one path

-- an input cannot be left of itself
not_before : (edges : List EdgePaths) (edge maker other : ℕ) → maker ≡ other
    → ¬ IsInputBefore edges edge maker other
not_before edges edge maker other same before =
    let at = before.2 before.0 (before.1 ∙ ap (λ m. Some (Some m)) same) in omega arith

both_left : (edges : List EdgePaths) (edge : ℕ) (chain others : List ℕ) → IsLeftOf edges edge chain others
    → IsLeftOf edges edge others chain → chain ≡ others
both_left edges edge [] [] left right = refl
both_left edges edge [] (other ∷ others) left right = absurd right
both_left edges edge (maker ∷ chain) [] left right = absurd left
both_left edges edge (maker ∷ chain) (other ∷ others) (inl left) (inl right) =
    let one = left.2 right.0 right.1 in let two = right.2 left.0 left.1 in absurd (omega arith)
both_left edges edge (maker ∷ chain) (other ∷ others) (inl left) (inr right) =
    absurd (not_before edges edge maker other (sym right.0) left)
both_left edges edge (maker ∷ chain) (other ∷ others) (inr left) (inl right) =
    absurd (not_before edges edge other maker (sym left.0) right)
both_left edges edge (maker ∷ chain) (other ∷ others) (inr left) (inr right) =
    ap (λ m. m ∷ chain) left.0
    ∙ ap (λ ms. other ∷ ms) (both_left edges maker chain others left.1
    (subst (λ m. IsLeftOf edges m others chain) (sym left.0) right.1))

both_first : (edges : List EdgePaths) (chain others : List ℕ) → ComesFirst edges chain others
    → ComesFirst edges others chain → chain ≡ others
both_first edges [] [] one two = refl
both_first edges [] (other ∷ others) one two = absurd two
both_first edges (edge ∷ chain) [] one two = absurd one
both_first edges (edge ∷ chain) (other ∷ others) (inl one) (inl two) = absurd (omega arith)
both_first edges (edge ∷ chain) (other ∷ others) (inl one) (inr two) =
    let same = two.0 in absurd (omega arith)
both_first edges (edge ∷ chain) (other ∷ others) (inr one) (inl two) =
    let same = one.0 in absurd (omega arith)
both_first edges (edge ∷ chain) (other ∷ others) (inr one) (inr two) =
    ap (λ e. e ∷ chain) one.0
    ∙ ap (λ es. other ∷ es) (both_left edges edge chain others one.1
    (subst (λ e. IsLeftOf edges e others chain) (sym one.0) two.1))

pub one_path : OnePathIsCritical
one_path edges files durations path other is of_other =
    let most = is.longest other of_other.chain in
    let least = of_other.longest path is.chain in
    both_first edges path other
    (is.first other of_other.chain of_other.timed
    (let e : sum_of durations other ≡ sum_of durations path = omega arith in e))
    (of_other.first path is.chain is.timed
    (let e : sum_of durations path ≡ sum_of durations other = omega arith in e))

-- ---- numbers of edges

pub number_within : (count : ℕ) (edge : Option EdgeNo) → IfSome edge (λ e. e.0 < count)
    → IfSome (option_map (λ (e : EdgeNo). e.0) edge) (λ e. e < count)
number_within count None lt = tt
number_within count (Some edge) lt = lt
