-- How long the commands of a build took, by its log.
use Rattle.std.specs.Prelude.{ℕ, ◌+◌, ℤ, pos, negsuc, ◌-ℤ◌, if◌then◌else◌, Option, Some, None, is_none, option_map, unwrap_or, List, [], ◌∷◌, map, slice_index_or}
use Rattle.std.specs.List.{count_by}
use Rattle.nj_edges.specs.Edges.{EdgePaths, first_output}
use Rattle.nj_build_log.specs.Logs.{LineModel, entry_of}
use Rattle.nj_build_log.specs.declared.entry.Entry.{Entry}

-- a whole number, or 0 if it is negative
abbrev pub at_least_zero : ℤ → ℕ
at_least_zero (pos number) = number
at_least_zero (negsuc number) = 0

-- the milliseconds from the start to the end of a command; 0 if the end is before the start
abbrev pub milliseconds : Entry → ℕ
milliseconds entry = at_least_zero (entry.end -ℤ entry.start)

-- the duration that the last line of an output states; `None` without a line
abbrev pub logged_duration : List LineModel → (output : Option (List ℕ)) → Option ℕ
logged_duration lines None = None
logged_duration lines (Some output) = option_map milliseconds (entry_of lines output)

-- The duration of an edge, in milliseconds. A phony edge has no command and takes no time; a command takes what the log says of its first
-- output, and `None` means that the log does not say it.
abbrev pub duration_of : List LineModel → EdgePaths → Option ℕ
duration_of lines edge = if edge.is_phony then Some 0 else logged_duration lines (first_output edge)

-- the durations of all edges, in order
abbrev pub durations_of : List LineModel → List EdgePaths → List (Option ℕ)
durations_of lines edges = map (duration_of lines) edges

-- the duration of the edge with the given number; `None` if it is unknown
abbrev pub duration_at : (durations : List (Option ℕ)) → (edge : ℕ) → Option ℕ
duration_at durations edge = slice_index_or durations edge None

-- the time of an edge in sums: its duration, or 0 if that is unknown
abbrev pub time_at : (durations : List (Option ℕ)) → (edge : ℕ) → ℕ
time_at durations edge = unwrap_or (duration_at durations edge) 0

-- the sum of the durations of edges
abbrev pub sum_of : (durations : List (Option ℕ)) → (edges : List ℕ) → ℕ
sum_of durations [] = 0
sum_of durations (edge ∷ edges) = time_at durations edge + sum_of durations edges

-- how many of the edges have unknown durations
abbrev pub unknown_of : (durations : List (Option ℕ)) → (edges : List ℕ) → ℕ
unknown_of durations edges = count_by (λ edge. is_none (duration_at durations edge)) edges
