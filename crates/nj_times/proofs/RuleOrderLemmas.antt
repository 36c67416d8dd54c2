-- The times of rules, in order, and what is written of them.
use Rattle.std.proofs.Common.{◌≡◌, ◌∙◌, ℕ, suc, ◌+◌, ◌<◌, Bool, true, false, Option, Some, None}
use Rattle.std.proofs.Common.{List, [], ◌∷◌, ◌++◌}
use Rattle.std.proofs.Common.{ap, ap₂, arith, cond, length, map, refl, subst, sym}
use Rattle.std.specs.Prelude.{All, bytes_eq, slice_index, slice_index_or, unwrap_or}
use Rattle.std.specs.List.{flat_map}
use Rattle.std.specs.List.Sorted.{IsPermutation, IsSorted, IsSortedBy, IsStrictlyIncreasing}
use Rattle.std.specs.Ordering.{is_lt, nat_cmp, ordering_then}
use Rattle.std.proofs.lemmas.List.{get_or-map, length-map, take_all}
use Rattle.std.proofs.lemmas.List.Sorted.{IsPermutation-map, length_permutation}
use Rattle.std.proofs.lemmas.Slice.Eq.{bytes_eq-Decides}
use Rattle.nj_build_log.specs.Logs.{LineModel}
use Rattle.nj_edges.specs.Edges.{EdgePaths}
use Rattle.nj_times.specs.Critical.{AreNeededBy, IsCriticalPath}
use Rattle.nj_times.specs.Reports.{commands_in, summary_of}
use Rattle.nj_times.specs.Rules.{AreSlowestRules, IsRuleReport, edges_with, first_edges, rule_at, rule_line}
use Rattle.nj_times.specs.Rules.{rule_report_text, rule_text, rule_sums, rules_of}
use Rattle.nj_times.specs.Slowest.{slowest_first}
use Rattle.nj_times.specs.Times.{durations_of, sum_of, time_at}
use Rattle.nj_times.specs.Inside.RulesHeld.{times_in, times_line}
use Rattle.nj_times.specs.declared.rule_times.RuleTimes.{RuleTimes}

abbrev pub firsts : List RuleTimes → List ℕ
firsts times = map (λ (t : RuleTimes). t.first.0) times

module _ (rules : List (List ℕ)) (durations : List (Option ℕ)) (edges : List ℕ) where
  abbrev f : List ℕ → RuleTimes
  f = times_in rules durations edges

  abbrev sums : List (Option ℕ)
  sums = rule_sums rules durations edges

  -- the times are those of the rule of their first edge
  abbrev pub AreOwn : RuleTimes → Type 0
  AreOwn t = t ≡ f (rule_at rules t.first.0)

  first_has : (es : List ℕ) (name : List ℕ) → 0 < length (edges_with rules es name)
      → rule_at rules (slice_index (edges_with rules es name) 0) ≡ name
  first_has [] name some = absurd (omega (arith, some))
  first_has (e ∷ es) name some = by (bytes_eq name (rule_at rules e)) refl (first_has es name)
    where
      by : (b : Bool) → bytes_eq name (rule_at rules e) ≡ b
          → (0 < length (edges_with rules es name)
          → rule_at rules (slice_index (edges_with rules es name) 0) ≡ name)
          → rule_at rules (slice_index (edges_with rules (e ∷ es) name) 0) ≡ name
      by true is rest =
          ap (λ b. rule_at rules (slice_index
          (cond b (e ∷ edges_with rules es name) (edges_with rules es name)) 0)) is
          ∙ sym ((bytes_eq-Decides name (rule_at rules e)).0 is)
      by false is rest =
          let same : edges_with rules (e ∷ es) name ≡ edges_with rules es name =
          ap (λ b. cond b (e ∷ edges_with rules es name) (edges_with rules es name)) is in
          ap (λ (ns : List ℕ). rule_at rules (slice_index ns 0)) same
          ∙ rest (subst (λ (ns : List ℕ). 0 < length ns) same some)

  pub own_times : (names : List (List ℕ)) (times : List RuleTimes) → times ≡ map f names
      → ((k : ℕ) (d : RuleTimes) → k < length times → 0 < (slice_index_or times k d).commands)
      → All AreOwn times
  own_times names times held some k d within =
      let count = ap length held ∙ length-map names f in
      let here : slice_index_or times k d ≡ f (slice_index_or names k []) =
      ap (λ (ts : List RuleTimes). slice_index_or ts k d) held
      ∙ get_or-map f names k [] d (omega (arith, within, count)) in
      let has = first_has edges (slice_index_or names k [])
      (subst (λ (t : RuleTimes). 0 < t.commands) here (some k d within)) in
      here ∙ ap f (sym has) ∙ ap (λ (t : RuleTimes). f (rule_at rules t.first.0)) (sym here)

  own_sum : (t : RuleTimes) → t.first.0 < length rules → AreOwn t → time_at sums t.first.0 ≡ t.sum
  own_sum t known own =
      ap (λ (o : Option ℕ). unwrap_or o 0)
      (get_or-map (λ rule. Some (sum_of durations (edges_with rules edges rule))) rules t.first.0 [] None
      known)
      ∙ ap (λ (u : RuleTimes). u.sum) (sym own)

  sorted_firsts : (times : List RuleTimes)
      → IsSortedBy (λ (s t : RuleTimes). is_lt
      (ordering_then (nat_cmp t.sum s.sum) (nat_cmp s.first.0 t.first.0))) times
      → All (λ (t : RuleTimes). time_at sums t.first.0 ≡ t.sum) times
      → IsSorted (slowest_first sums) (firsts times)
  sorted_firsts times sorted even = λ k default low high.
      let none : RuleTimes = record {
        first = record { 0 = default };
        commands = 0;
        sum = 0;
        slowest =
            record { 0 = 0 };
      } in
      let count : length (firsts times) ≡ length times = length-map times (λ (t : RuleTimes). t.first.0) in
      let next_in : k + 1 < length times = omega (arith, count, high) in
      let here_in : k < length times = omega (arith, count, high) in
      let next = slice_index_or times (k + 1) none in
      let here = slice_index_or times k none in
      ap₂ (λ a b. is_lt (slowest_first sums a b))
      (get_or-map (λ (t : RuleTimes). t.first.0) times (k + 1) none default next_in)
      (get_or-map (λ (t : RuleTimes). t.first.0) times k none default here_in)
      ∙ ap₂ (λ a b. is_lt (ordering_then (nat_cmp a b) (nat_cmp next.first.0 here.first.0)))
      (even k none here_in) (even (k + 1) none next_in)
      ∙ sorted k none low next_in

  first_of_each : (names : List (List ℕ))
      → firsts (map f names) ≡ map (λ rule. slice_index (edges_with rules edges rule) 0) names
  first_of_each [] = refl
  first_of_each (name ∷ names) =
      ap (λ (es : List ℕ). slice_index (edges_with rules edges name) 0 ∷ es) (first_of_each names)

  pub slowest_first_rules : (times sorted : List RuleTimes) → times ≡ map f (rules_of rules edges)
      → All (λ (t : RuleTimes). t.first.0 < length rules) sorted → All AreOwn sorted
      → IsPermutation times sorted
      → IsSortedBy (λ (s t : RuleTimes). is_lt
      (ordering_then (nat_cmp t.sum s.sum) (nat_cmp s.first.0 t.first.0))) sorted
      → AreSlowestRules rules durations edges (firsts sorted)
  slowest_first_rules times sorted held known own moved falls =
      let all : firsts times ≡ first_edges rules edges = ap firsts held ∙ first_of_each (rules_of rules edges)
      in
      let turned : IsPermutation (first_edges rules edges) (firsts sorted) =
      subst (λ (es : List ℕ). IsPermutation es (firsts sorted)) all
      (IsPermutation-map (λ (t : RuleTimes). t.first.0) times sorted moved) in
      record {
        sorted = firsts sorted;
        permuted = turned;
        falling = sorted_firsts sorted falls
            (λ k d within. own_sum (slice_index_or sorted k d) (known k d within) (own k d within));
        front = sym (take_all (length (first_edges rules edges)) (firsts sorted)
            (let e = length_permutation (first_edges rules edges) (firsts sorted) turned
            in omega (arith, e)));
      }

  -- the lines of rules
  pub lines_of_rules : (graph : List EdgePaths) (is_json : Bool) (times : List RuleTimes) → All AreOwn times
      → flat_map (times_line graph rules durations is_json) times
      ≡ flat_map (rule_line graph rules durations is_json edges) (firsts times)
  lines_of_rules graph is_json [] own = refl
  lines_of_rules graph is_json (t ∷ times) own =
      let one : times_line graph rules durations is_json t
      ≡ rule_line graph rules durations is_json edges t.first.0 =
      ap (λ (u : RuleTimes). rule_text_of u) (own 0 t (omega arith)) in
      ap₂ (λ (a b : List ℕ). a ++ b) one (lines_of_rules graph is_json times
      (λ k d within. own (suc k) d (omega (arith, within))))
    where
      rule_text_of : RuleTimes → List ℕ
      rule_text_of u = rule_text graph durations is_json (rule_at rules t.first.0) u.commands u.sum
          u.slowest.0

-- what is written is a report by rules
pub rules_reported : (edges : List EdgePaths) (rules : List (List ℕ)) (lines : List LineModel)
    (files : List (List ℕ))
    (is_json : Bool) (durations : List (Option ℕ)) (needed commands path : List ℕ) (shown : List RuleTimes)
    (text : List ℕ)
    → durations ≡ durations_of lines edges → AreNeededBy edges files needed → IsStrictlyIncreasing needed
    → commands ≡ commands_in edges needed → IsCriticalPath edges files durations path
    → AreSlowestRules rules durations commands (firsts shown) → All (AreOwn rules durations commands) shown
    → text ≡ summary_of durations is_json commands path
    ++ flat_map (times_line edges rules durations is_json) shown
    → IsRuleReport edges rules lines files is_json text
rules_reported edges rules lines files is_json durations needed commands path shown text are are_needed rises
    commands_are critical slowest own text_is = record {
      needed = needed;
      are_needed = are_needed;
      rises = rises;
      path = path;
      critical = subst (λ (ds : List (Option ℕ)). IsCriticalPath edges files ds path) are critical;
      shown = firsts shown;
      are_shown = subst (λ (ds : List (Option ℕ)). AreSlowestRules rules ds (commands_in edges needed)
          (firsts shown)) are
          (subst (λ (cs : List ℕ). AreSlowestRules rules durations cs (firsts shown)) commands_are slowest);
      text_is = text_is
          ∙ ap (λ (t : List ℕ). summary_of durations is_json commands path ++ t)
          (lines_of_rules rules durations commands edges is_json shown own)
          ∙ ap (λ (ds : List (Option ℕ)). rule_report_text edges rules ds is_json commands path
          (firsts shown)) are
          ∙ ap (λ (cs : List ℕ). rule_report_text edges rules (durations_of lines edges) is_json cs path
          (firsts shown))
          commands_are;
    }
