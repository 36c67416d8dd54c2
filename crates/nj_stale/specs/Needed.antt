-- The reasons of some edges, where only the times of their files are known.
use Rattle.std.specs.Prelude.{◌≡◌, ◌⊎◌, ℕ, ◌<◌, Some, List, length, Contains}
use Rattle.nj_edges.specs.Edges.{edge_at, outputs_of, counted_inputs_of, maker_of}
use Rattle.nj_stale.specs.States.{Evidence, State, IsStateOf}
use Rattle.nj_stale.specs.Laws.{HasNoCycle}

-- the same evidence with the given times
abbrev pub with_times : Evidence → (time : List ℕ → ℕ) → Evidence
with_times known time = record known { disk_time = time }

-- the needed edges include the makers of all their inputs that count
abbrev pub AreClosed : Evidence → (needed : List ℕ) → Type 0
AreClosed known needed = (edge maker : ℕ) (path : List ℕ) → Contains needed edge
    → Contains (counted_inputs_of (edge_at known.edges edge)) path → maker_of known.edges path ≡ Some maker → Contains needed maker

-- an edge has the file as an output, or as an input that counts
abbrev pub HasFile : Evidence → (edge : ℕ) → (path : List ℕ) → Type 0
HasFile known edge path =
    Contains (outputs_of (edge_at known.edges edge)) path ⊎ Contains (counted_inputs_of (edge_at known.edges edge)) path

-- Times of files that the needed edges do not have do not change the reasons of the needed edges: so the edges that targets need can be
-- judged by the times of their files alone.
abbrev pub OtherTimesSayNothing : Type 0
OtherTimesSayNothing = (known : Evidence) (time : List ℕ → ℕ) (needed : List ℕ) (s t : State) → HasNoCycle known → AreClosed known needed
    → ((edge : ℕ) (path : List ℕ) → Contains needed edge → HasFile known edge path → time path ≡ known.disk_time path)
    → IsStateOf known s → IsStateOf (with_times known time) t
    → (edge : ℕ) → Contains needed edge → edge < length known.edges → t.reason edge ≡ s.reason edge
