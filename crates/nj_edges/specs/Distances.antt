-- The edges that files need, and how far away they are.
use Rattle.std.specs.Prelude.{ℕ, zero, suc, ◌<◌, ◌≤◌, Some, List, length, map, slice_index, Contains}
use Rattle.nj_cycles.specs.Cycles.{Needs}
use Rattle.nj_edges.specs.Edges.{EdgePaths, maker_of}
use Rattle.nj_edges.specs.Needs.{makers_of_inputs}
use Rattle.nj_edges.specs.Changes.{IsOrNeeds}

-- the edge makes one of the files
abbrev pub MakesOneOf : List EdgePaths → (files : List (List ℕ)) → (edge : ℕ) → Type 0
MakesOneOf edges files edge = Contains (map (maker_of edges) files) (Some edge)

-- files need the edges that make them, and the edges that those edges need by any chain of inputs
abbrev pub IsNeeded : List EdgePaths → (files : List (List ℕ)) → (edge : ℕ) → Type 0
IsNeeded edges files edge = (maker : ℕ) × MakesOneOf edges files maker × IsOrNeeds edges maker edge

-- an edge is reached in the given number of steps: in 0 if steps begin there, or in one more step than an edge from
-- which a step leads to it
abbrev pub IsReachedIn : (begins : ℕ → Type 0) → (step : ℕ → ℕ → Type 0) → (steps edge : ℕ) → Type 0
IsReachedIn begins step zero edge = begins edge
IsReachedIn begins step (suc steps) edge = (e : ℕ) × IsReachedIn begins step steps e × step e edge

-- files need an edge by a chain of the given number of steps, each from an edge to a maker of one of its
-- inputs
abbrev pub IsNeededIn : List EdgePaths → (files : List (List ℕ)) → (steps edge : ℕ) → Type 0
IsNeededIn edges files steps edge = IsReachedIn (MakesOneOf edges files) (Needs (makers_of_inputs edges)) steps edge

-- the distance of an edge is the number of steps of a shortest chain
pub record IsDistance (edges : List EdgePaths) (files : List (List ℕ)) (edge distance : ℕ) : Type 0 where
  pub chain : IsNeededIn edges files distance edge
  pub shortest : (steps : ℕ) → IsNeededIn edges files steps edge → distance ≤ steps

-- the distances of the edges never fall
pub record AreNearestFirst (edges : List EdgePaths) (files : List (List ℕ)) (numbers : List ℕ) : Type 0 where
  pub distance : (edge : ℕ) → ℕ
  pub of_each : (edge : ℕ) → Contains numbers edge → IsDistance edges files edge (distance edge)
  pub rises : (i j : ℕ) → i ≤ j → j < length numbers → distance (slice_index numbers i) ≤ distance (slice_index numbers j)
