-- What is found of the first edges of an order, and what is asked of files by their numbers.
use Rattle.std.specs.Prelude.{◌≡◌, ℕ, ◌<◌, Bool, not, ◌&&◌, if◌then◌else◌, ◌==◌, Option, None, Some, unwrap_or, is_some, List, length, slice_index, slice_index_or}
use Rattle.nj_names.specs.Files.{path_at}
use Rattle.nj_names.specs.declared.files.FileNo.{FileNo}
use Rattle.nj_edges.specs.EdgeGraphs.{EdgeGraph}
use Rattle.nj_edges.specs.Edges.{EdgePaths, edge_at, maker_of}
use Rattle.nj_build_log.specs.Logs.{LineModel, entry_of}
use Rattle.nj_stale.specs.States.{Evidence, State, IsStateOf, by_output, lent_time}
use Rattle.nj_stale.specs.Numbered.{time_of, IsMakersFirst}
use Rattle.nj_stale.specs.declared.evidence.EdgeFacts.{EdgeFacts}
use Rattle.nj_stale.specs.declared.reason.Reason.{Reason}
use Rattle.nj_stale.specs.declared.reason.Reason.TheVariants.{StaleInput, MissingOutput}

-- ---- files

-- the time of a file, by its time on the disk and the times that makers lend
abbrev pub time_by : (maker : Option ℕ) → (disk : ℕ) → (lent : List ℕ) → ℕ
time_by None disk lent = disk
time_by (Some edge) disk lent = if disk == 0 then slice_index lent edge else disk

-- a file is stale by its time on the disk, or by the reason of its maker
abbrev pub is_stale_held_by : (maker : Option ℕ) → (disk : ℕ) → (reasons : List (Option Reason)) → Bool
is_stale_held_by None disk reasons = disk == 0
is_stale_held_by (Some edge) disk reasons = is_some (slice_index_or reasons edge None)

abbrev pub time_held : EdgeGraph → (times lent : List ℕ) → FileNo → ℕ
time_held g times lent file = time_by (maker_of g.edges (path_at g.files file)) (slice_index times file.0) lent

abbrev pub is_stale_held : EdgeGraph → (times : List ℕ) → (reasons : List (Option Reason)) → FileNo → Bool
is_stale_held g times reasons file =
    is_stale_held_by (maker_of g.edges (path_at g.files file)) (slice_index times file.0) reasons

-- ---- files as reasons

abbrev pub input_held : EdgeGraph → (times : List ℕ) → (reasons : List (Option Reason)) → FileNo → (place : ℕ) → Option Reason
input_held g times reasons file place = if is_stale_held g times reasons file then Some (StaleInput place) else None

abbrev pub missing_held : (times : List ℕ) → FileNo → (place : ℕ) → Option Reason
missing_held times file place = if slice_index times file.0 == 0 then Some (MissingOutput place) else None

abbrev pub output_held : EdgeGraph → (times : List ℕ) → List LineModel → EdgeFacts → (newest : Option ℕ) → FileNo → (place : ℕ)
    → Option Reason
output_held g times lines facts newest file place =
    by_output facts newest (slice_index times file.0) (entry_of lines (path_at g.files file)) place

-- the time that an edge lends to its outputs
abbrev pub lent_by : (is_phony : Bool) → Option Reason → (newest : Option ℕ) → ℕ
lent_by is_phony reason newest = if is_phony && not (is_some reason) then unwrap_or newest 0 else 0

-- ---- turns

-- the first edges of the order have their reasons, and the times that they lend
pub record IsFound (known : Evidence) (order : List ℕ) (turn : ℕ) (reasons : List (Option Reason)) (lent : List ℕ) : Type 0 where
  pub reason_count : length reasons ≡ length known.edges
  pub lent_count : length lent ≡ length known.edges
  pub reason_of_each : (s : State) → IsStateOf known s → (k : ℕ) → k < turn
      → slice_index_or reasons (slice_index order k) None ≡ s.reason (slice_index order k)
  pub lent_by_each : (s : State) → IsStateOf known s → (k : ℕ) → k < turn
      → slice_index lent (slice_index order k) ≡ lent_time s (edge_at known.edges (slice_index order k)) (slice_index order k)

-- the edge is the next of an order
pub record IsNext (edges : List EdgePaths) (order : List ℕ) (turn edge : ℕ) : Type 0 where
  pub order_is : IsMakersFirst edges order
  pub within : turn < length order
  pub edge_is : edge ≡ slice_index order turn

-- the state that was found so far
abbrev pub state_held : EdgeGraph → (times : List ℕ) → (reasons : List (Option Reason)) → (lent : List ℕ) → State
state_held g times reasons lent = record {
  reason = λ edge. slice_index_or reasons edge None;
  time = λ path. time_by (maker_of g.edges path) (time_of g.files times path) lent;
}
