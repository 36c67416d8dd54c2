-- The critical path of a build: the chain of edges whose durations sum to the most.
use Rattle.std.specs.Prelude.{◌≡◌, ◌⊎◌, ◌↔◌, ⊤, ℕ, ◌<◌, ◌≤◌, Option, Some, List, [], ◌∷◌, slice_get, Contains}
use Rattle.nj_cycles.specs.Cycles.{Needs}
use Rattle.nj_edges.specs.Distances.{IsNeeded}
use Rattle.nj_edges.specs.Edges.{EdgePaths}
use Rattle.nj_edges.specs.Needs.{makers_of_inputs}
use Rattle.nj_times.specs.Times.{sum_of, time_at}

-- ---- chains

-- A chain of edges, from its last edge to its first: each needs the next one directly, by an input of any kind. Validations are not
-- inputs.
abbrev pub IsChain : List EdgePaths → (chain : List ℕ) → Type 0
IsChain edges [] = ⊤
IsChain edges (edge ∷ []) = ⊤
IsChain edges (edge ∷ maker ∷ chain) = Needs (makers_of_inputs edges) edge maker × IsChain edges (maker ∷ chain)

-- a chain of edges that files need
pub record IsNeededChain (edges : List EdgePaths) (files : List (List ℕ)) (chain : List ℕ) : Type 0 where
  pub linked : IsChain edges chain
  pub needed : (edge : ℕ) → Contains chain edge → IsNeeded edges files edge

-- the numbers are those of the edges that files need
abbrev pub AreNeededBy : List EdgePaths → (files : List (List ℕ)) → (numbers : List ℕ) → Type 0
AreNeededBy edges files numbers = (edge : ℕ) → Contains numbers edge ↔ IsNeeded edges files edge

-- the last edge of a chain, if any, took time
abbrev pub EndsInTime : (durations : List (Option ℕ)) → (chain : List ℕ) → Type 0
EndsInTime durations [] = ⊤
EndsInTime durations (edge ∷ chain) = 0 < time_at durations edge

-- ---- which chain comes first

-- an edge has an input that one edge makes, to the left of all inputs that another makes
abbrev pub IsInputBefore : List EdgePaths → (edge maker other : ℕ) → Type 0
IsInputBefore edges edge maker other = (place : ℕ) × (slice_get (makers_of_inputs edges edge) place ≡ Some (Some maker))
    × ((later : ℕ) → slice_get (makers_of_inputs edges edge) later ≡ Some (Some other) → place < later)

-- Of two chains on from an edge, the one ends where the other may go on; or they part where it goes on by an input farther left.
abbrev pub IsLeftOf : List EdgePaths → (edge : ℕ) → (chain others : List ℕ) → Type 0
IsLeftOf edges edge [] others = ⊤
IsLeftOf edges edge (maker ∷ chain) [] = ⊥
IsLeftOf edges edge (maker ∷ chain) (other ∷ others) =
    IsInputBefore edges edge maker other ⊎ ((maker ≡ other) × IsLeftOf edges maker chain others)

-- Of two chains, the one whose last edge is earlier in the manifest comes first; of two with the same last edge, the left one.
abbrev pub ComesFirst : List EdgePaths → (chain others : List ℕ) → Type 0
ComesFirst edges [] others = ⊤
ComesFirst edges (edge ∷ chain) [] = ⊥
ComesFirst edges (edge ∷ chain) (other ∷ others) = (edge < other) ⊎ ((edge ≡ other) × IsLeftOf edges edge chain others)

-- ---- the critical path

-- The critical path of the edges that files need: a chain of them, of which none sums to more. It ends with an edge that took time, and of
-- all chains with that sum that do, it comes first. So it has no edge before the first one that took time.
pub record IsCriticalPath (edges : List EdgePaths) (files : List (List ℕ)) (durations : List (Option ℕ)) (path : List ℕ) : Type 0 where
  pub chain : IsNeededChain edges files path
  pub longest : (others : List ℕ) → IsNeededChain edges files others → sum_of durations others ≤ sum_of durations path
  pub timed : EndsInTime durations path
  pub first : (others : List ℕ) → IsNeededChain edges files others → EndsInTime durations others
      → sum_of durations others ≡ sum_of durations path → ComesFirst edges path others
