-- What is written of where the time of a build went.
use Rattle.std.specs.Prelude.{◌≡◌, ℕ, ◌/◌, ◌%◌, Bool, true, false, not, Option, Some, None, unwrap_or, List, [], ◌++◌, length, reverse, codes}
use Rattle.std.specs.Fmt.{decimal}
use Rattle.std.specs.List.{filter, flat_map}
use Rattle.std.specs.List.Sorted.{IsStrictlyIncreasing}
use Rattle.std.specs.Str.Lossy.{utf8_lossy}
use Rattle.serde_json.specs.Data.{string}
use Rattle.serde_json.specs.Written.{compact_text}
use Rattle.nj_build_log.specs.Logs.{LineModel}
use Rattle.nj_edges.specs.Edges.{EdgePaths, edge_at, first_output}
use Rattle.nj_times.specs.Times.{duration_at, durations_of, sum_of, unknown_of}
use Rattle.nj_times.specs.Critical.{AreNeededBy, IsCriticalPath}
use Rattle.nj_times.specs.Slowest.{AreSlowest}

-- ---- texts

-- milliseconds as seconds, with three digits after the point
abbrev pub seconds : (milliseconds : ℕ) → List ℕ
seconds milliseconds = decimal (milliseconds / 1000) ++ codes "." ++ decimal (milliseconds / 100 % 10)
    ++ decimal (milliseconds / 10 % 10) ++ decimal (milliseconds % 10)

-- the first output of the edge with the given number; empty if it has none
abbrev pub output_of : List EdgePaths → (edge : ℕ) → List ℕ
output_of edges edge = unwrap_or (first_output (edge_at edges edge)) []

-- how long an edge took, for people
abbrev pub duration_text : (duration : Option ℕ) → List ℕ
duration_text None = codes "unknown"
duration_text (Some milliseconds) = seconds milliseconds ++ codes " s"

-- the same, in JSON
abbrev pub duration_value : (duration : Option ℕ) → List ℕ
duration_value None = codes "null"
duration_value (Some milliseconds) = decimal milliseconds

-- the line of an edge: how long it took, and its first output
abbrev pub edge_line : List EdgePaths → (durations : List (Option ℕ)) → (is_json : Bool) → (edge : ℕ) → List ℕ
edge_line edges durations false edge =
    duration_text (duration_at durations edge) ++ codes " " ++ output_of edges edge ++ codes "\n"
edge_line edges durations true edge = codes "{\"milliseconds\":" ++ duration_value (duration_at durations edge)
    ++ codes ",\"output\":" ++ compact_text (string (utf8_lossy (output_of edges edge))) ++ codes "}\n"

-- the first line: how many commands there are, how many durations are unknown, the sum of the others, and that of the critical path
abbrev pub summary : (is_json : Bool) → (commands unknown sum critical : ℕ) → List ℕ
summary false commands unknown sum critical = codes "commands: " ++ decimal commands ++ codes ", unknown: " ++ decimal unknown
    ++ codes ", sum: " ++ seconds sum ++ codes " s, critical path: " ++ seconds critical ++ codes " s\n"
summary true commands unknown sum critical = codes "{\"commands\":" ++ decimal commands ++ codes ",\"unknown\":" ++ decimal unknown
    ++ codes ",\"sum\":" ++ decimal sum ++ codes ",\"critical_path\":" ++ decimal critical ++ codes "}\n"

-- ---- reports

-- of the given edges, those with a command
abbrev pub commands_in : List EdgePaths → (numbers : List ℕ) → List ℕ
commands_in edges numbers = filter (λ edge. not (edge_at edges edge).is_phony) numbers

-- the edges that have lines: the critical path from its first edge to its last, or the slowest commands
abbrev pub AreShown : (durations : List (Option ℕ)) → (top : Option ℕ) → (commands path shown : List ℕ) → Type 0
AreShown durations None commands path shown = shown ≡ reverse path
AreShown durations (Some count) commands path shown = AreSlowest durations commands count shown

-- the first line, by the commands and the critical path
abbrev pub summary_of : (durations : List (Option ℕ)) → (is_json : Bool) → (commands path : List ℕ) → List ℕ
summary_of durations is_json commands path =
    summary is_json (length commands) (unknown_of durations commands) (sum_of durations commands) (sum_of durations path)

-- the first line, and a line for each edge that is shown
abbrev pub report_text : List EdgePaths → (durations : List (Option ℕ)) → (is_json : Bool) → (commands path shown : List ℕ) → List ℕ
report_text edges durations is_json commands path shown =
    summary_of durations is_json commands path ++ flat_map (edge_line edges durations is_json) shown

-- the report on the edges that files need, in the order of the manifest, by the lines of a build log
pub record IsReport (edges : List EdgePaths) (lines : List LineModel) (files : List (List ℕ)) (top : Option ℕ) (is_json : Bool)
    (text : List ℕ) : Type 0 where
  pub needed : List ℕ
  pub are_needed : AreNeededBy edges files needed
  pub rises : IsStrictlyIncreasing needed
  pub path : List ℕ
  pub critical : IsCriticalPath edges files (durations_of lines edges) path
  pub shown : List ℕ
  pub are_shown : AreShown (durations_of lines edges) top (commands_in edges needed) path shown
  pub text_is : text ≡ report_text edges (durations_of lines edges) is_json (commands_in edges needed) path shown
