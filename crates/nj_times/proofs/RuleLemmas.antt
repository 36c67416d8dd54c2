-- The times of rules, with one more edge.
use Rattle.std.proofs.Common.{◌≡◌, ◌≢◌, ◌∙◌, ℕ, zero, suc, ◌+◌, ◌^◌, ◌<◌, ◌≤◌, Bool, true, false}
use Rattle.std.proofs.Common.{true≢false}
use Rattle.std.proofs.Common.{cond, inl, inr, Option, Some, List, [], ◌∷◌, ◌++◌, length, map, set, take}
use Rattle.std.proofs.Common.{refl, sym, ap, subst, arith}
use Rattle.std.specs.Prelude.{◌||◌, bytes_eq, fold, nat_lt, option_map, slice_get, slice_index}
use Rattle.std.specs.Prelude.{slice_index_or, All, Contains}
use Rattle.std.specs.List.{AllByRecursion, IsDistinct}
use Rattle.std.proofs.lemmas.Bool.{cases_lt, le-ltb, lt-ltb, ltb-false, ltb-true}
use Rattle.std.proofs.lemmas.List.{append-nil, length-append, length-map, map-append, take_more}
use Rattle.std.proofs.lemmas.List.Elements.{All-push, All-set, filter-append}
use Rattle.std.proofs.lemmas.List.Folds.{list_any-append}
use Rattle.std.proofs.lemmas.List.Sums.{fold-append}
use Rattle.std.proofs.lemmas.Option.{get_or_from_slice_get, slice_get-map, slice_get_within}
use Rattle.std.proofs.lemmas.Slice.Eq.{bytes_eq-Decides}
use Rattle.nj_edges.proofs.EdgeLemmas.{get-append}
use Rattle.nj_names.specs.NameTables.{is_among, with_name}
use Rattle.nj_edges.specs.declared.edges.EdgeNo.{EdgeNo}
use Rattle.nj_times.specs.Laws.{IsSlowestOf, NoneIsSlower}
use Rattle.nj_times.specs.Times.{sum_of, time_at}
use Rattle.nj_times.specs.Rules.{edges_with, rule_at, rules_of, slower, slowest_in}
use Rattle.nj_times.specs.Inside.RulesHeld.{AreTimes, IsSmall, all_with_edge, of_one, times_in, with_edge}
use Rattle.nj_times.specs.declared.rule_times.RuleTimes.{RuleTimes}

-- ---- one more edge of a rule

sum_more : (durations : List (Option ℕ)) (edges : List ℕ) (edge : ℕ)
    → sum_of durations (edges ++ edge ∷ []) ≡ sum_of durations edges + time_at durations edge
sum_more durations [] edge = omega arith
sum_more durations (first ∷ edges) edge = let rest = sum_more durations edges edge in omega (arith, rest)

-- what edges took, by the edges alone
abbrev of_edges : (durations : List (Option ℕ)) → List ℕ → RuleTimes
of_edges durations edges = record {
  first = record { 0 = slice_index edges 0 };
  commands = length edges;
  sum = sum_of durations edges;
  slowest = record { 0 = slowest_in durations edges };
}

abbrev made : (first commands sum slowest : ℕ) → RuleTimes
made first commands sum slowest = record {
  first = record { 0 = first };
  commands = commands;
  sum = sum;
  slowest = record { 0 = slowest };
}

one_more : (durations : List (Option ℕ)) (edges : List ℕ) (edge : ℕ) → 0 < length edges
    → of_edges durations (edges ++ edge ∷ []) ≡ with_edge durations (of_edges durations edges) edge
one_more durations [] edge some = absurd (omega (arith, some))
one_more durations (first ∷ edges) edge some =
    let count : length (first ∷ edges ++ edge ∷ []) ≡ length (first ∷ edges) + 1 =
    length-append (first ∷ edges) (edge ∷ []) in
    let sum = sum_more durations (first ∷ edges) edge in
    let slow : slowest_in durations (first ∷ edges ++ edge ∷ [])
    ≡ slower durations (slowest_in durations (first ∷ edges)) edge =
    fold-append (slower durations) first edges (edge ∷ []) in
    ap (λ n. made first n (sum_of durations (first ∷ edges ++ edge ∷ []))
    (slowest_in durations (first ∷ edges ++ edge ∷ []))) count
    ∙ ap (λ n. made first (length (first ∷ edges) + 1) n
    (slowest_in durations (first ∷ edges ++ edge ∷ []))) sum
    ∙ ap (λ n. made first (length (first ∷ edges) + 1)
    (sum_of durations (first ∷ edges) + time_at durations edge) n) slow

-- ---- names

differs : (name other : List ℕ) → bytes_eq name other ≡ false → name ≢ other
differs name other apart is = true≢false (sym ((bytes_eq-Decides name other).1 is) ∙ apart)

not_same : (name other : List ℕ) → name ≢ other → bytes_eq name other ≡ false
not_same name other apart = by (bytes_eq name other) refl
  where
    by : (b : Bool) → bytes_eq name other ≡ b → bytes_eq name other ≡ false
    by true is = absurd (apart ((bytes_eq-Decides name other).0 is))
    by false is = is

-- a list in which no name is mapped otherwise
unchanged : {X : Type 0} (f g : List ℕ → X) (name : List ℕ) (names : List (List ℕ))
    → AllByRecursion (λ other. bytes_eq name other ≡ false) names
    → ((other : List ℕ) → other ≢ name → g other ≡ f other) → map g names ≡ map f names
unchanged f g name [] apart others = refl
unchanged f g name (other ∷ names) apart others =
    ap (λ x. x ∷ map g names) (others other (λ is. differs name other apart.0 (sym is)))
    ∙ ap (λ xs. f other ∷ xs) (unchanged f g name names apart.1 others)

apart_at : (first : List ℕ) (names : List (List ℕ)) (number : ℕ) (name : List ℕ)
    → AllByRecursion (λ other. bytes_eq first other ≡ false) names → slice_get names number ≡ Some name
    → bytes_eq first name ≡ false
apart_at first [] number name apart at = absurd (cc)
apart_at first (other ∷ names) zero name apart at =
    let same : other ≡ name = cc in subst (λ n. bytes_eq first n ≡ false) same apart.0
apart_at first (other ∷ names) (suc number) name apart at = apart_at first names number name apart.1 at

-- a list in which one name is mapped otherwise
changed : {X : Type 0} (f g : List ℕ → X) (names : List (List ℕ)) (number : ℕ) (name : List ℕ)
    → slice_get names number ≡ Some name → IsDistinct bytes_eq names
    → ((other : List ℕ) → other ≢ name → g other ≡ f other)
    → map g names ≡ set (map f names) number (g name)
unfolding IsDistinct
changed f g [] number name at apart others = absurd (cc)
changed f g (first ∷ names) zero name at apart others =
    let same : first ≡ name = cc in
    ap (λ n. g n ∷ map g names) same
    ∙ ap (λ xs. g name ∷ xs) (unchanged f g first names apart.0
    (λ other out. others other (λ is. out (is ∙ sym same))))
changed f g (first ∷ names) (suc number) name at apart others =
    ap (λ x. x ∷ map g names) (others first
    (differs first name (apart_at first names number name apart.0 at)))
    ∙ ap (λ xs. f first ∷ xs) (changed f g names number name at apart.1 others)

-- a name among others
among_at : (names : List (List ℕ)) (number : ℕ) (name : List ℕ) → slice_get names number ≡ Some name
    → is_among names name ≡ true
among_at [] number name at = absurd (cc)
among_at (first ∷ names) zero name at =
    let same : first ≡ name = cc in
    ap (λ b. b || is_among names name) ((bytes_eq-Decides name first).1 (sym same))
among_at (first ∷ names) (suc number) name at =
    by (bytes_eq name first) refl (among_at names number name at)
  where
    by : (b : Bool) → bytes_eq name first ≡ b → is_among names name ≡ true → (b || is_among names name) ≡ true
    by true is later = refl
    by false is later = later

-- the place of a new name
last_at : (names : List (List ℕ)) (number : ℕ) (name : List ℕ) → is_among names name ≡ false
    → slice_get (names ++ name ∷ []) number ≡ Some name → length names ≤ number
last_at names number name new at = elim (cases_lt number (length names)) [
  | inl low ↦ absurd (true≢false (sym (among_at names number name
      (sym (get-append names (name ∷ []) number low) ∙ at)) ∙ new))
  | inr high ↦ high
]

module _ (rules : List (List ℕ)) (durations : List (Option ℕ)) (edges : List ℕ) (edge : ℕ) where
  abbrev rule : List ℕ
  rule = rule_at rules edge

  abbrev after : List ℕ
  after = edges ++ edge ∷ []

  abbrev f : List ℕ → RuleTimes
  f = times_in rules durations edges

  abbrev g : List ℕ → RuleTimes
  g = times_in rules durations after

  with_more : (name : List ℕ) (b : Bool) → bytes_eq name rule ≡ b
      → edges_with rules after name ≡ edges_with rules edges name ++ cond b (edge ∷ []) []
  with_more name b is =
      filter-append (λ e. bytes_eq name (rule_at rules e)) edges (edge ∷ [])
      ∙ ap (λ c. edges_with rules edges name ++ cond c (edge ∷ []) []) is

  other_rule : (name : List ℕ) → name ≢ rule → g name ≡ f name
  other_rule name apart =
      ap (of_edges durations) (with_more name false (not_same name rule apart)
      ∙ append-nil (edges_with rules edges name))

  same_rule : g rule ≡ of_edges durations (edges_with rules edges rule ++ edge ∷ [])
  same_rule = ap (of_edges durations) (with_more rule true ((bytes_eq-Decides rule rule).1 refl))

  new_rule : edges_with rules edges rule ≡ [] → g rule ≡ of_one durations edge
  new_rule none =
      same_rule ∙ ap (λ es. of_edges durations (es ++ edge ∷ [])) none
      ∙ ap (λ n. made edge 1 n edge) (let e : time_at durations edge + 0 ≡ time_at durations edge =
      omega arith in e)

  old_rule : 0 < length (edges_with rules edges rule) → g rule ≡ with_edge durations (f rule) edge
  old_rule some = same_rule ∙ one_more durations (edges_with rules edges rule) edge some

  -- rules without edges
  absent_more : (names : List (List ℕ)) → ((name : List ℕ) → is_among names name ≡ false
      → edges_with rules edges name ≡ [])
      → (name : List ℕ) → is_among (with_name names rule) name ≡ false → edges_with rules after name ≡ []
  absent_more names absent name away = by (is_among names rule) refl
    where
      none : is_among names name ≡ false → bytes_eq name rule ≡ false → edges_with rules after name ≡ []
      none out apart = with_more name false apart ∙ append-nil (edges_with rules edges name) ∙ absent name out

      old : is_among names rule ≡ true → is_among names name ≡ false → (b : Bool) → bytes_eq name rule ≡ b
          → edges_with rules after name ≡ []
      old there out true is =
          absurd (true≢false (sym there ∙ ap (is_among names) (sym ((bytes_eq-Decides name rule).0 is))
          ∙ out))
      old there out false is = none out is

      new : (a b : Bool) → is_among names name ≡ a → bytes_eq name rule ≡ b → (a || (b || false)) ≡ false
          → edges_with rules after name ≡ []
      new true b out apart is = absurd (true≢false is)
      new false true out apart is = absurd (true≢false is)
      new false false out apart is = none out apart

      by : (b : Bool) → is_among names rule ≡ b → edges_with rules after name ≡ []
      by true there =
          old there (sym (ap (λ ns. is_among ns name) (ap (λ b. cond b names (names ++ rule ∷ [])) there))
          ∙ away)
          (bytes_eq name rule) refl
      by false new_one =
          new (is_among names name) (bytes_eq name rule) refl refl
          (sym (list_any-append (bytes_eq name) names (rule ∷ []))
          ∙ sym (ap (λ ns. is_among ns name) (ap (λ b. cond b names (names ++ rule ∷ [])) new_one)) ∙ away)

  named_more : with_name (rules_of rules edges) rule ≡ rules_of rules after
  named_more =
      sym (ap (fold with_name []) (map-append (rule_at rules) edges (edge ∷ []))
      ∙ fold-append with_name [] (map (rule_at rules) edges) (rule ∷ []))

  -- the times of all rules
  held_more : (names : List (List ℕ)) (times : List RuleTimes) (number : ℕ) → times ≡ map f names
      → ((name : List ℕ) → is_among names name ≡ false → edges_with rules edges name ≡ [])
      → ((k : ℕ) (d : RuleTimes) → k < length times → 0 < (slice_index_or times k d).commands)
      → slice_get (with_name names rule) number ≡ Some rule → IsDistinct bytes_eq (with_name names rule)
      → all_with_edge durations times number edge ≡ map g (with_name names rule)
  held_more names times number held absent some at apart = by (is_among names rule) refl
    where
      count : length times ≡ length names
      count = ap length held ∙ length-map names f

      default : RuleTimes
      default = of_one durations edge

      old : slice_get names number ≡ Some rule → IsDistinct bytes_eq names
          → all_with_edge durations times number edge ≡ map g names
      old there distinct =
          let low = slice_get_within names number rule there in
          let within : number < length times = omega (arith, low, count) in
          let here : slice_index_or times number default ≡ f rule =
          ap (λ ts. slice_index_or ts number default) held
          ∙ get_or_from_slice_get (map f names) number (f rule) default
          (slice_get-map f names number ∙ ap (option_map f) there) in
          let found : 0 < length (edges_with rules edges rule) =
          subst (λ (t : RuleTimes). 0 < t.commands) here (some number default within) in
          ap (λ b. cond b (set times number (with_edge durations (slice_index_or times number default) edge))
          (times ++ default ∷ [])) (lt-ltb number (length times) within)
          ∙ ap (λ t. set times number (with_edge durations t edge)) here
          ∙ ap (λ t. set times number t) (sym (old_rule found))
          ∙ ap (λ ts. set ts number (g rule)) held
          ∙ sym (changed f g names number rule there distinct other_rule)

      new : is_among names rule ≡ false → slice_get (names ++ rule ∷ []) number ≡ Some rule
          → all_with_edge durations times number edge ≡ map g (names ++ rule ∷ [])
      new away last =
          let high = last_at names number rule away last in
          ap (λ b. cond b (set times number (with_edge durations (slice_index_or times number default) edge))
          (times ++ default ∷ [])) (le-ltb number (length times) (omega (arith, high, count)))
          ∙ ap (λ ts. ts ++ default ∷ []) (held ∙ sym (same_names names away))
          ∙ ap (λ t. map g names ++ t ∷ []) (sym (new_rule (absent rule away)))
          ∙ sym (map-append g names (rule ∷ []))
        where
          same_names : (ns : List (List ℕ)) → is_among ns rule ≡ false → map g ns ≡ map f ns
          same_names [] out = refl
          same_names (name ∷ ns) out = here (bytes_eq rule name) refl out (same_names ns)
            where
              here : (b : Bool) → bytes_eq rule name ≡ b → (b || is_among ns rule) ≡ false
                  → (is_among ns rule ≡ false → map g ns ≡ map f ns) → map g (name ∷ ns) ≡ map f (name ∷ ns)
              here true is or rest = absurd (true≢false or)
              here false is or rest =
                  ap (λ t. t ∷ map g ns) (other_rule name (λ e. differs rule name is (sym e)))
                  ∙ ap (λ ts. f name ∷ ts) (rest or)

      by : (b : Bool) → is_among names rule ≡ b
          → all_with_edge durations times number edge ≡ map g (with_name names rule)
      by true there =
          let same : with_name names rule ≡ names = ap (λ b. cond b names (names ++ rule ∷ [])) there in
          old (ap (λ ns. slice_get ns number) (sym same) ∙ at) (subst (IsDistinct bytes_eq) same apart)
          ∙ ap (map g) (sym same)
      by false away =
          let grown : with_name names rule ≡ names ++ rule ∷ [] =
          ap (λ b. cond b names (names ++ rule ∷ [])) away in
          new away (ap (λ ns. slice_get ns number) (sym grown) ∙ at) ∙ ap (map g) (sym grown)

  -- the times remain small
  small_more : (count : ℕ) (times : List RuleTimes) (number : ℕ) → edge < count
      → time_at durations edge < 2 ^ 64
      → All (IsSmall count (length edges)) times
      → All (IsSmall count (length after)) (all_with_edge durations times number edge)
  small_more count times number known short small = by (nat_lt number (length times)) refl
    where
      longer : length after ≡ length edges + 1
      longer = length-append edges (edge ∷ [])

      all : All (IsSmall count (length after)) times
      all k d within =
          let s = small k d within in
          let few = s.few in
          record {
            some = s.some;
            few = omega (arith, few, longer);
            small = s.small;
            first = s.first;
            slowest = s.slowest;
          }

      one : IsSmall count (length after) (of_one durations edge)
      one = record {
        some = omega arith;
        few = omega (arith, longer);
        small = omega (arith, short);
        first = known;
        slowest = known;
      }

      grown : (t : RuleTimes) → IsSmall count (length edges) t
          → IsSmall count (length after) (with_edge durations t edge)
      grown t s =
          let few = s.few in
          let sum = s.small in
          record {
            some = omega arith;
            few = omega (arith, few, longer);
            small = omega (arith, sum, short);
            first = s.first;
            slowest = slow (nat_lt (time_at durations t.slowest.0) (time_at durations edge)) s.slowest;
          }
        where
          slow : (b : Bool) → t.slowest.0 < count → cond b edge t.slowest.0 < count
          slow true low = known
          slow false low = low

      by : (b : Bool) → nat_lt number (length times) ≡ b
          → All (IsSmall count (length after)) (all_with_edge durations times number edge)
      by true is =
          subst (All (IsSmall count (length after)))
          (sym (ap (λ b. cond b (set times number
          (with_edge durations (slice_index_or times number (of_one durations edge)) edge))
          (times ++ of_one durations edge ∷ [])) is))
          (All-set (IsSmall count (length after)) times number
          (with_edge durations (slice_index_or times number (of_one durations edge)) edge)
          (grown (slice_index_or times number (of_one durations edge))
          (small number (of_one durations edge) (ltb-true number (length times) is))) all)
      by false is =
          subst (All (IsSmall count (length after)))
          (sym (ap (λ b. cond b (set times number
          (with_edge durations (slice_index_or times number (of_one durations edge)) edge))
          (times ++ of_one durations edge ∷ [])) is))
          (All-push (IsSmall count (length after)) times (of_one durations edge) all one)

  -- one more edge
  pub times_more : (names : List (List ℕ)) (times : List RuleTimes) (number : ℕ) → edge < length rules
      → time_at durations edge < 2 ^ 64 → AreTimes rules durations edges names times
      → slice_get (with_name names rule) number ≡ Some rule → IsDistinct bytes_eq (with_name names rule)
      → AreTimes rules durations after (with_name names rule) (all_with_edge durations times number edge)
  times_more names times number known short are at apart = record {
    named = ap (λ ns. with_name ns rule) are.named ∙ named_more;
    held = held_more names times number are.held are.absent (λ k d within. (are.small k d within).some) at
        apart;
    absent = absent_more names are.absent;
    small = small_more (length rules) times number known short are.small;
  }

abbrev numbers : List EdgeNo → List ℕ
numbers edges = map (λ (edge : EdgeNo). edge.0) edges

-- one more turn of the loop
pub turn_more : (rules : List (List ℕ)) (durations : List (Option ℕ)) (edges : List EdgeNo) (index : ℕ)
    (none : EdgeNo)
    (edge : EdgeNo) (names named : List (List ℕ)) (times timed : List RuleTimes) (number : ℕ)
    → index < length edges
    → edge ≡ slice_index_or edges index none → edge.0 < length rules → time_at durations edge.0 < 2 ^ 64
    → AreTimes rules durations (numbers (take index edges)) names times
    → named ≡ with_name names (rule_at rules edge.0) → slice_get named number ≡ Some (rule_at rules edge.0)
    → IsDistinct bytes_eq named → timed ≡ all_with_edge durations times number edge.0
    → AreTimes rules durations (numbers (take (index + 1) edges)) named timed
turn_more rules durations edges index none edge names named times timed number within is known short are added
    at apart more =
    let longer : numbers (take (index + 1) edges) ≡ numbers (take index edges) ++ edge.0 ∷ [] =
    ap numbers (take_more edges index none within ∙ ap (λ (e : EdgeNo). take index edges ++ e ∷ []) (sym is))
    ∙ map-append (λ (e : EdgeNo). e.0) (take index edges) (edge ∷ []) in
    subst (λ (es : List ℕ). AreTimes rules durations es named timed) (sym longer)
    (subst (λ (ns : List (List ℕ)). AreTimes rules durations (numbers (take index edges) ++ edge.0 ∷ []) ns
    timed) (sym added)
    (subst (λ (ts : List RuleTimes). AreTimes rules durations (numbers (take index edges) ++ edge.0 ∷ [])
    (with_name names (rule_at rules edge.0)) ts) (sym more)
    (times_more rules durations (numbers (take index edges)) edge.0 names times number known short are
    (ap (λ ns. slice_get ns number) (sym added) ∙ at) (subst (IsDistinct bytes_eq) added apart))))

-- ---- the slowest of a rule

slower_both : (durations : List (Option ℕ)) (edge other : ℕ)
    → (time_at durations edge ≤ time_at durations (slower durations edge other))
    × (time_at durations other ≤ time_at durations (slower durations edge other))
slower_both durations edge other = by (nat_lt (time_at durations edge) (time_at durations other)) refl
  where
    by : (b : Bool) → nat_lt (time_at durations edge) (time_at durations other) ≡ b
        → (time_at durations edge ≤ time_at durations (cond b other edge))
        × (time_at durations other ≤ time_at durations (cond b other edge))
    by true is = let less = ltb-true (time_at durations edge) (time_at durations other) is
        in (omega (arith, less), omega arith)
    by false is = (omega arith, ltb-false (time_at durations edge) (time_at durations other) is)

slower_one : (durations : List (Option ℕ)) (edge other : ℕ) (edges : List ℕ)
    → Contains (edge ∷ other ∷ edges) (slower durations edge other)
slower_one durations edge other edges = by (nat_lt (time_at durations edge) (time_at durations other))
  where
    by : (b : Bool) → Contains (edge ∷ other ∷ edges) (cond b other edge)
    by true = (1, omega arith, refl)
    by false = (0, omega arith, refl)

pub none_slower : NoneIsSlower
none_slower durations first [] = record {
  member = (0, omega arith, refl);
  most = λ edge there. alone edge there;
}
  where
    alone : (edge : ℕ) → Contains (first ∷ []) edge → time_at durations edge ≤ time_at durations first
    alone edge (zero, lt, is) = subst (λ n. time_at durations n ≤ time_at durations first) is (omega arith)
    alone edge (suc k, lt, is) = absurd (omega (arith, lt))
none_slower durations first (next ∷ edges) =
    let rest = none_slower durations (slower durations first next) edges in
    record {
      member = member rest.member;
      most = λ edge there. most rest edge there;
    }
  where
    slow : ℕ
    slow = slowest_in durations (slower durations first next ∷ edges)

    member : Contains (slower durations first next ∷ edges) slow → Contains (first ∷ next ∷ edges) slow
    member (zero, lt, is) = subst (Contains (first ∷ next ∷ edges)) is (slower_one durations first next edges)
    member (suc k, lt, is) = (suc (suc k), omega (arith, lt), is)

    most : IsSlowestOf durations (slower durations first next ∷ edges) slow → (edge : ℕ)
        → Contains (first ∷ next ∷ edges) edge → time_at durations edge ≤ time_at durations slow
    most rest edge there =
        by there
      where
        top : time_at durations (slower durations first next) ≤ time_at durations slow
        top = rest.most (slower durations first next) (0, omega arith, refl)

        by : Contains (first ∷ next ∷ edges) edge → time_at durations edge ≤ time_at durations slow
        by (zero, lt, is) =
            let below = (slower_both durations first next).0 in
            let high = top in
            subst (λ n. time_at durations n ≤ time_at durations slow) is (omega (arith, below, high))
        by (suc zero, lt, is) =
            let below = (slower_both durations first next).1 in
            let high = top in
            subst (λ n. time_at durations n ≤ time_at durations slow) is (omega (arith, below, high))
        by (suc (suc k), lt, is) = rest.most edge (suc k, omega (arith, lt), is)
