-- How edges are found, nearest first.
use Rattle.std.specs.Prelude.{◌≡◌, ℕ, suc, ◌<◌, ◌≤◌, List, length, slice_index, Contains}
use Rattle.nj_names.specs.NumberSets.{NumberSetModel}
use Rattle.nj_cycles.specs.Cycles.{Needs}
use Rattle.nj_edges.specs.Distances.{IsReachedIn, MakesOneOf}
use Rattle.nj_edges.specs.Edges.{EdgePaths}
use Rattle.nj_edges.specs.Needs.{makers_of_inputs}

-- between two turns: the edges found are reached, in as many steps as `distance` says; distances never fall along the list; and
-- the steps from each edge before a place in the list lead to edges that were found, in at most one more step
pub record IsSearched (begins : ℕ → Type 0) (step : ℕ → ℕ → Type 0) (distance : ℕ → ℕ) (numbers : List ℕ) (place : ℕ) : Type 0 where
  pub within : place ≤ length numbers
  pub sound : (e : ℕ) → Contains numbers e → IsReachedIn begins step (distance e) e
  pub rises : (i j : ℕ) → i ≤ j → j < length numbers → distance (slice_index numbers i) ≤ distance (slice_index numbers j)
  pub near : (i j : ℕ) → i < length numbers → place ≤ j → j < length numbers
      → distance (slice_index numbers i) ≤ suc (distance (slice_index numbers j))
  pub begun : (e : ℕ) → begins e → Contains numbers e × (distance e ≡ 0)
  pub closed : (i e : ℕ) → i < place → step (slice_index numbers i) e → Contains numbers e
      × (distance e ≤ suc (distance (slice_index numbers i)))

-- the edges that files need are searched up to a place
pub record FindsNeeded (edges : List EdgePaths) (files : List (List ℕ)) (found : NumberSetModel) (place : ℕ) : Type 0 where
  pub limit : found.limit ≡ length edges
  pub distance : (e : ℕ) → ℕ
  pub searched : IsSearched (MakesOneOf edges files) (Needs (makers_of_inputs edges)) distance found.numbers place
