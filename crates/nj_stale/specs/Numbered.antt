-- What is known of a graph whose files and edges have numbers, and the reasons of its edges by their numbers.
use Rattle.std.specs.Prelude.{◌≡◌, ◌≢◌, ℕ, ◌<◌, if◌then◌else◌, Option, Some, List, [], ◌∷◌, length, bytes_eq, slice_get, slice_index, Contains}
use Rattle.nj_edges.specs.EdgeGraphs.{EdgeGraph}
use Rattle.nj_edges.specs.Edges.{EdgePaths, edge_at, counted_inputs_of, maker_of}
use Rattle.nj_build_log.specs.Logs.{LineModel}
use Rattle.nj_stale.specs.States.{Evidence, State, IsStateOf, lent_time}
use Rattle.nj_stale.specs.declared.evidence.EdgeFacts.{EdgeFacts}
use Rattle.nj_stale.specs.declared.reason.Reason.{Reason}

-- the time of the file at a path; 0 if no file has the path
abbrev pub time_of : (files : List (List ℕ)) → (times : List ℕ) → (path : List ℕ) → ℕ
time_of [] times path = 0
time_of (file ∷ files) [] path = 0
time_of (file ∷ files) (time ∷ times) path = if bytes_eq path file then time else time_of files times path

-- the facts of each edge, the times of each file, and the lines of a log
abbrev pub evidence_of : EdgeGraph → List EdgeFacts → (times : List ℕ) → List LineModel → Evidence
evidence_of g facts times lines =
    record { edges = g.edges; facts = facts; disk_time = time_of g.files times; lines = lines }

-- there are as many facts as edges, and as many times as files
pub record IsKnown (g : EdgeGraph) (facts : List EdgeFacts) (times : List ℕ) : Type 0 where
  pub fact_count : length facts ≡ length g.edges
  pub time_count : length times ≡ length g.files

-- an order of edges in which each comes after the makers of its inputs that count
pub record IsMakersFirst (edges : List EdgePaths) (order : List ℕ) : Type 0 where
  pub within : (turn : ℕ) → turn < length order → slice_index order turn < length edges
  pub first : (turn maker : ℕ) (path : List ℕ) → turn < length order
      → Contains (counted_inputs_of (edge_at edges (slice_index order turn))) path → maker_of edges path ≡ Some maker
      → (earlier : ℕ) × (earlier < turn) × (slice_index order earlier ≡ maker)

-- an order of all edges in which makers come first, without duplicates
pub record IsOrderOfAll (edges : List EdgePaths) (order : List ℕ) : Type 0 where
  pub makers_first : IsMakersFirst edges order
  pub all : (edge : ℕ) → edge < length edges → Contains order edge
  pub once : (turn later : ℕ) → turn < later → later < length order → slice_index order turn ≢ slice_index order later

-- Each edge of the order has its reason in the state of the build.
abbrev pub AreReasonsOf : Evidence → (order : List ℕ) → (reasons : List (Option Reason)) → Type 0
AreReasonsOf known order reasons = (s : State) → IsStateOf known s → (turn : ℕ) → turn < length order
    → slice_get reasons (slice_index order turn) ≡ Some (s.reason (slice_index order turn))

-- each edge of the order has the time that it lends in the state of the build
abbrev pub AreLentTimesOf : Evidence → (order : List ℕ) → (lent : List ℕ) → Type 0
AreLentTimesOf known order lent = (s : State) → IsStateOf known s → (turn : ℕ) → turn < length order
    → slice_index lent (slice_index order turn) ≡ lent_time s (edge_at known.edges (slice_index order turn)) (slice_index order turn)

-- what is found of the edges of an order: why each is stale, and the time that it lends
pub record AreFound (known : Evidence) (order : List ℕ) (reasons : List (Option Reason)) (lent : List ℕ) : Type 0 where
  pub reasons_are : AreReasonsOf known order reasons
  pub lent_count : length lent ≡ length known.edges
  pub lent_are : AreLentTimesOf known order lent

-- each edge has the time that it lends
abbrev pub AreLentBy : List EdgePaths → State → (lent : List ℕ) → Type 0
AreLentBy edges s lent = (edge : ℕ) → edge < length edges → slice_index lent edge ≡ lent_time s (edge_at edges edge) edge
