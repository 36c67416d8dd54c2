-- What the commands of each rule took.
use Rattle.std.specs.Prelude.{◌≡◌, ℕ, nat_lt, if◌then◌else◌, Bool, true, false, Option, Some, List, [], ◌∷◌, ◌++◌, length, map, fold, slice_index, slice_index_or, bytes_eq, codes}
use Rattle.std.specs.Fmt.{decimal}
use Rattle.std.specs.List.{filter, flat_map}
use Rattle.std.specs.List.Sorted.{IsStrictlyIncreasing}
use Rattle.std.specs.Str.Lossy.{utf8_lossy}
use Rattle.serde_json.specs.Data.{string}
use Rattle.serde_json.specs.Written.{compact_text}
use Rattle.nj_names.specs.NameTables.{with_name}
use Rattle.nj_build_log.specs.Logs.{LineModel}
use Rattle.nj_edges.specs.Edges.{EdgePaths}
use Rattle.nj_times.specs.Times.{duration_at, durations_of, sum_of, time_at}
use Rattle.nj_times.specs.Critical.{AreNeededBy, IsCriticalPath}
use Rattle.nj_times.specs.Slowest.{AreSlowest}
use Rattle.nj_times.specs.Reports.{commands_in, duration_value, edge_line, output_of, seconds, summary_of}

-- ---- the edges of a rule

-- the rule of the edge with the given number, where each edge has one in `rules`; empty past the last edge
abbrev pub rule_at : (rules : List (List ℕ)) → (edge : ℕ) → List ℕ
rule_at rules edge = slice_index_or rules edge []

-- the rules of edges, without duplicates, in the order of their first edges
abbrev pub rules_of : (rules : List (List ℕ)) → (edges : List ℕ) → List (List ℕ)
rules_of rules edges = fold with_name [] (map (rule_at rules) edges)

-- of the given edges, those with the rule
abbrev pub edges_with : (rules : List (List ℕ)) → (edges : List ℕ) → (rule : List ℕ) → List ℕ
edges_with rules edges rule = filter (λ edge. bytes_eq rule (rule_at rules edge)) edges

-- the first edge of each rule
abbrev pub first_edges : (rules : List (List ℕ)) → (edges : List ℕ) → List ℕ
first_edges rules edges = map (λ rule. slice_index (edges_with rules edges rule) 0) (rules_of rules edges)

-- ---- sums

-- for each edge of the graph, the sum of the durations of those of the given edges that have its rule
abbrev pub rule_sums : (rules : List (List ℕ)) → (durations : List (Option ℕ)) → (edges : List ℕ) → List (Option ℕ)
rule_sums rules durations edges = map (λ rule. Some (sum_of durations (edges_with rules edges rule))) rules

-- The rules of edges, each by its first edge: the rule whose edges took longest first, and rules that took as long in the order of
-- their first edges.
abbrev pub AreSlowestRules : (rules : List (List ℕ)) → (durations : List (Option ℕ)) → (edges slowest : List ℕ) → Type 0
AreSlowestRules rules durations edges slowest =
    AreSlowest (rule_sums rules durations edges) (first_edges rules edges) (length (first_edges rules edges)) slowest

-- of two edges, the one that took longer; the first one if they took as long
abbrev pub slower : (durations : List (Option ℕ)) → (edge other : ℕ) → ℕ
slower durations edge other = if nat_lt (time_at durations edge) (time_at durations other) then other else edge

-- the first of the edges that took longest; 0 without edges
abbrev pub slowest_in : (durations : List (Option ℕ)) → (edges : List ℕ) → ℕ
slowest_in durations [] = 0
slowest_in durations (edge ∷ edges) = fold (slower durations) edge edges

-- ---- texts

-- the last members of a rule's object: how long its slowest command took, and the first output of that
abbrev pub slowest_members : List EdgePaths → (durations : List (Option ℕ)) → (slowest : ℕ) → List ℕ
slowest_members edges durations slowest = codes ",\"milliseconds\":" ++ duration_value (duration_at durations slowest)
    ++ codes ",\"output\":" ++ compact_text (string (utf8_lossy (output_of edges slowest))) ++ codes "}\n"

-- the line of a rule, by the number of its commands, the sum of their durations, and the slowest command
abbrev pub rule_text : List EdgePaths → (durations : List (Option ℕ)) → (is_json : Bool) → (rule : List ℕ) → (commands sum slowest : ℕ) → List ℕ
rule_text edges durations false rule commands sum slowest = seconds sum ++ codes " s " ++ rule ++ codes ", commands: " ++ decimal commands
    ++ codes ", slowest: " ++ edge_line edges durations false slowest
rule_text edges durations true rule commands sum slowest = codes "{\"rule\":" ++ compact_text (string (utf8_lossy rule))
    ++ codes ",\"commands\":" ++ decimal commands ++ codes ",\"sum\":" ++ decimal sum
    ++ slowest_members edges durations slowest

-- the line of the rule that the edge with the given number has
abbrev pub rule_line : List EdgePaths → (rules : List (List ℕ)) → (durations : List (Option ℕ)) → (is_json : Bool) → (commands : List ℕ) → (first : ℕ) → List ℕ
rule_line edges rules durations is_json commands first =
    let same = edges_with rules commands (rule_at rules first) in
    rule_text edges durations is_json (rule_at rules first) (length same) (sum_of durations same) (slowest_in durations same)

-- the first line, and a line for each rule that is shown
abbrev pub rule_report_text : List EdgePaths → (rules : List (List ℕ)) → (durations : List (Option ℕ)) → (is_json : Bool) → (commands path shown : List ℕ) → List ℕ
rule_report_text edges rules durations is_json commands path shown =
    summary_of durations is_json commands path ++ flat_map (rule_line edges rules durations is_json commands) shown

-- the report, by rules, on the edges that files need, in the order of the manifest, by the lines of a build log
pub record IsRuleReport (edges : List EdgePaths) (rules : List (List ℕ)) (lines : List LineModel) (files : List (List ℕ)) (is_json : Bool)
    (text : List ℕ) : Type 0 where
  pub needed : List ℕ
  pub are_needed : AreNeededBy edges files needed
  pub rises : IsStrictlyIncreasing needed
  pub path : List ℕ
  pub critical : IsCriticalPath edges files (durations_of lines edges) path
  pub shown : List ℕ
  pub are_shown : AreSlowestRules rules (durations_of lines edges) (commands_in edges needed) shown
  pub text_is : text ≡ rule_report_text edges rules (durations_of lines edges) is_json (commands_in edges needed) path shown
