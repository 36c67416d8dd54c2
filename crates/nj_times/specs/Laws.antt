-- Laws of critical paths and of slowest edges: there is one, and what a critical path means for a build.
use Rattle.std.specs.Prelude.{◌≡◌, ℕ, ◌+◌, ◌≤◌, Option, List, ◌∷◌, Contains}
use Rattle.nj_cycles.specs.Cycles.{Needs}
use Rattle.nj_edges.specs.Edges.{EdgePaths}
use Rattle.nj_edges.specs.Distances.{IsNeeded}
use Rattle.nj_edges.specs.Needs.{makers_of_inputs}
use Rattle.nj_times.specs.Times.{sum_of, time_at}
use Rattle.nj_times.specs.Critical.{IsCriticalPath}
use Rattle.nj_times.specs.Slowest.{AreSlowest}
use Rattle.nj_times.specs.Rules.{slowest_in}

-- When each edge ends in a build of the files that began at 0, if each takes its duration and starts after the makers of its inputs end.
-- How many edges run at once is left open.
pub record AreEnds (edges : List EdgePaths) (files : List (List ℕ)) (durations : List (Option ℕ)) (ends : ℕ → ℕ) : Type 0 where
  pub alone : (edge : ℕ) → IsNeeded edges files edge → time_at durations edge ≤ ends edge
  pub after : (edge maker : ℕ) → IsNeeded edges files edge → Needs (makers_of_inputs edges) edge maker
      → ends maker + time_at durations edge ≤ ends edge

-- however many edges run at once, the last edge of the critical path does not end before the sum of the path
abbrev pub BuildsTakeTheCriticalPath : Type 0
BuildsTakeTheCriticalPath = (edges : List EdgePaths) (files : List (List ℕ)) (durations : List (Option ℕ)) (ends : ℕ → ℕ)
    (last : ℕ) (path : List ℕ) → IsCriticalPath edges files durations (last ∷ path) → AreEnds edges files durations ends
    → sum_of durations (last ∷ path) ≤ ends last

-- the files that are needed, and the durations, determine the critical path
abbrev pub OnePathIsCritical : Type 0
OnePathIsCritical = (edges : List EdgePaths) (files : List (List ℕ)) (durations : List (Option ℕ)) (path other : List ℕ)
    → IsCriticalPath edges files durations path → IsCriticalPath edges files durations other → path ≡ other

-- edges and their durations determine the slowest of the edges
abbrev pub OneListIsSlowest : Type 0
OneListIsSlowest = (durations : List (Option ℕ)) (edges : List ℕ) (count : ℕ) (slowest other : List ℕ)
    → AreSlowest durations edges count slowest → AreSlowest durations edges count other → slowest ≡ other

-- the slowest of edges is one of them, and none of them took longer
pub record IsSlowestOf (durations : List (Option ℕ)) (edges : List ℕ) (slowest : ℕ) : Type 0 where
  pub member : Contains edges slowest
  pub most : (edge : ℕ) → Contains edges edge → time_at durations edge ≤ time_at durations slowest

-- no edge of a list took longer than its slowest edge
abbrev pub NoneIsSlower : Type 0
NoneIsSlower = (durations : List (Option ℕ)) (first : ℕ) (edges : List ℕ)
    → IsSlowestOf durations (first ∷ edges) (slowest_in durations (first ∷ edges))
