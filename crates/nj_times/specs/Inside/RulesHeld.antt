-- How the times of rules are found: one command after another.
use Rattle.std.specs.Prelude.{◌≡◌, ℕ, ◌+◌, ◌*◌, ◌^◌, ◌<◌, ◌≤◌, nat_lt, if◌then◌else◌, Bool, false, Option, List, [], ◌∷◌, ◌++◌, length, map, set, slice_index, slice_index_or, All}
use Rattle.nj_names.specs.NameTables.{is_among}
use Rattle.nj_edges.specs.Edges.{EdgePaths}
use Rattle.nj_times.specs.Times.{sum_of, time_at}
use Rattle.nj_times.specs.Rules.{edges_with, rule_at, rule_text, rules_of, slower, slowest_in}
use Rattle.nj_times.specs.declared.rule_times.RuleTimes.{RuleTimes}

-- what the given edges with a rule took
abbrev pub times_in : (rules : List (List ℕ)) → (durations : List (Option ℕ)) → (edges : List ℕ) → (rule : List ℕ) → RuleTimes
times_in rules durations edges rule =
    let same = edges_with rules edges rule in
    record {
      first = record { 0 = slice_index same 0 };
      commands = length same;
      sum = sum_of durations same;
      slowest = record { 0 = slowest_in durations same };
    }

-- what one edge took
abbrev pub of_one : (durations : List (Option ℕ)) → (edge : ℕ) → RuleTimes
of_one durations edge = record {
  first = record { 0 = edge };
  commands = 1;
  sum = time_at durations edge;
  slowest = record { 0 = edge };
}

-- what the edges of a rule took, with one more edge
abbrev pub with_edge : (durations : List (Option ℕ)) → RuleTimes → (edge : ℕ) → RuleTimes
with_edge durations times edge = record {
  first = times.first;
  commands = times.commands + 1;
  sum = times.sum + time_at durations edge;
  slowest = record { 0 = slower durations times.slowest.0 edge };
}

-- the times of rules, with one more edge, whose rule has the given number
abbrev pub all_with_edge : (durations : List (Option ℕ)) → List RuleTimes → (number edge : ℕ) → List RuleTimes
all_with_edge durations times number edge =
    if nat_lt number (length times)
    then set times number (with_edge durations (slice_index_or times number (of_one durations edge)) edge)
    else times ++ of_one durations edge ∷ []

-- the times of a rule have edges, and are small
pub record IsSmall (edges count : ℕ) (times : RuleTimes) : Type 0 where
  pub some : 0 < times.commands
  pub few : times.commands ≤ count
  pub small : times.sum ≤ times.commands * 2 ^ 64
  pub first : times.first.0 < edges
  pub slowest : times.slowest.0 < edges

-- the times of all rules of the given edges
pub record AreTimes (rules : List (List ℕ)) (durations : List (Option ℕ)) (edges : List ℕ) (names : List (List ℕ)) (times : List RuleTimes)
    : Type 0 where
  pub named : names ≡ rules_of rules edges
  pub held : times ≡ map (times_in rules durations edges) names
  pub absent : (rule : List ℕ) → is_among names rule ≡ false → edges_with rules edges rule ≡ []
  pub small : All (IsSmall (length rules) (length edges)) times

-- the line of a rule, by its times
abbrev pub times_line : List EdgePaths → (rules : List (List ℕ)) → (durations : List (Option ℕ)) → (is_json : Bool) → RuleTimes → List ℕ
times_line edges rules durations is_json times =
    rule_text edges durations is_json (rule_at rules times.first.0) times.commands times.sum times.slowest.0
