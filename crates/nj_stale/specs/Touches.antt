-- What becomes stale when files change: a law that ties stale edges to dirty ones.
use Rattle.std.specs.Prelude.{◌≡◌, ◌≢◌, ◌↔◌, ℕ, ◌<◌, true, false, if◌then◌else◌, None, Some, List, [], length}
use Rattle.nj_names.specs.NameTables.{is_among}
use Rattle.nj_edges.specs.Dirty.{IsDirty}
use Rattle.nj_edges.specs.Edges.{edge_at, outputs_of, maker_of}
use Rattle.nj_build_log.specs.Logs.{entry_of}
use Rattle.nj_build_log.specs.declared.entry.Entry.{Entry}
use Rattle.nj_stale.specs.States.{Evidence, State, IsStateOf, is_stale, is_before}
use Rattle.nj_stale.specs.Laws.{HasNoCycle}

-- the same evidence, with this time for the given files
abbrev pub touched : Evidence → (files : List (List ℕ)) → (now : ℕ) → Evidence
touched known files now = record known { disk_time = λ path. if is_among files path then now else known.disk_time path }

-- nothing is stale
abbrev pub IsUpToDate : Evidence → State → Type 0
IsUpToDate known s = (edge : ℕ) → edge < length known.edges → s.reason edge ≡ None

-- The files are sources, and the time is after all others, including those of the log. Each edge that is not phony has an output, edges
-- do not share outputs, and the outputs of phony edges are missing.
pub record CanBeTouched (known : Evidence) (files : List (List ℕ)) (now : ℕ) : Type 0 where
  pub sources : (path : List ℕ) → is_among files path ≡ true → maker_of known.edges path ≡ None
  pub later : (path : List ℕ) → known.disk_time path < now
  pub later_than_log : (path : List ℕ) (entry : Entry) → entry_of known.lines path ≡ Some entry → is_before entry.time (Some now) ≡ true
  pub some_output : (edge : ℕ) → edge < length known.edges → (edge_at known.edges edge).is_phony ≡ false
      → outputs_of (edge_at known.edges edge) ≢ []
  pub own_outputs : (path : List ℕ) (edge : ℕ) → is_among (outputs_of (edge_at known.edges edge)) path ≡ true
      → maker_of known.edges path ≡ Some edge
  pub phony_outputs : (path : List ℕ) (edge : ℕ) → maker_of known.edges path ≡ Some edge → (edge_at known.edges edge).is_phony ≡ true
      → known.disk_time path ≡ 0

-- if nothing is stale, touching sources makes stale exactly the edges that are not phony and are dirty by the touched files
abbrev pub TouchesMakeDirtyEdgesStale : Type 0
TouchesMakeDirtyEdgesStale = (known : Evidence) (files : List (List ℕ)) (now : ℕ) (s t : State) → HasNoCycle known
    → IsStateOf known s → IsUpToDate known s → CanBeTouched known files now → IsStateOf (touched known files now) t
    → (edge : ℕ) → edge < length known.edges → (edge_at known.edges edge).is_phony ≡ false
    → (is_stale t edge ≡ true) ↔ IsDirty known.edges files [] edge
