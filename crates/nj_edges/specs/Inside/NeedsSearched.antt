-- How the edges that an edge needs are searched.
use Rattle.std.specs.Prelude.{◌≡◌, ◌↔◌, ℕ, ◌<◌, ◌≤◌, Bool, true, false, Some, List, map, length, slice_index, All, Contains}
use Rattle.nj_names.specs.declared.files.FileNo.{FileNo}
use Rattle.nj_names.specs.Files.{path_at}
use Rattle.nj_names.specs.NumberSets.{NumberSetModel}
use Rattle.nj_cycles.specs.Cycles.{Needs}
use Rattle.nj_edges.specs.declared.edges.EdgeNo.{EdgeNo}
use Rattle.nj_edges.specs.Changes.{IsOrNeeds}
use Rattle.nj_edges.specs.Distances.{MakesOneOf}
use Rattle.nj_edges.specs.EdgeGraphs.{EdgeGraph}
use Rattle.nj_edges.specs.Edges.{EdgePaths}
use Rattle.nj_edges.specs.Needs.{makers_of_inputs}
use Rattle.nj_edges.specs.declared.search_state.SearchState.{SearchState}

-- the starts are the edges that make the inputs of an edge
abbrev pub AreStarts : List EdgePaths → (edge : ℕ) → (starts : List ℕ) → Type 0
AreStarts edges edge starts = (e : ℕ) → Contains starts e ↔ Needs (makers_of_inputs edges) edge e

-- an edge is one of the starts, or one of the starts needs it
abbrev pub IsReached : List EdgePaths → (starts : List ℕ) → (edge : ℕ) → Type 0
IsReached edges starts edge = (s : ℕ) × Contains starts s × IsOrNeeds edges s edge

-- between two turns: the edges found are the starts of the search and some edges that the starts need, including every edge that an
-- edge before a place needs directly
pub record IsSearched (edges : List EdgePaths) (starts : List ℕ) (found : NumberSetModel) (place : ℕ) : Type 0 where
  pub limit : found.limit ≡ length edges
  pub within : place ≤ length found.numbers
  pub sound : (e : ℕ) → Contains found.numbers e → IsReached edges starts e
  pub begun : (e : ℕ) → Contains starts e → Contains found.numbers e
  pub closed : (i e : ℕ) → i < place → Needs (makers_of_inputs edges) (slice_index found.numbers i) e → Contains found.numbers e

-- between two questions
pub record IsSearch (edges : List EdgePaths) (s : SearchState) : Type 0 where
  pub at_edge : (edge : EdgeNo) → s.edge ≡ Some edge → AreStarts edges edge.0 s.starts.items
  pub searched : IsSearched edges s.starts.items s.found s.place

-- for an edge
pub record IsSearchAt (edges : List EdgePaths) (edge : ℕ) (s : SearchState) : Type 0 where
  pub starts_are : AreStarts edges edge s.starts.items
  pub search : IsSearch edges s

-- the search starts with the given edges
pub record StartsWith (edges : List EdgePaths) (starts : List ℕ) (s : SearchState) : Type 0 where
  pub starts_are : s.starts.items ≡ starts
  pub searched : IsSearched edges starts s.found s.place

-- whether something is true is answered
abbrev pub Tells : (answer : Bool) → Type 0 → Type 0
Tells true P = P
Tells false P = ¬ P

-- whether an edge is reached from where the search starts
pub record Finds (edges : List EdgePaths) (edge : ℕ) (old new : SearchState) (answer : Bool) : Type 0 where
  pub tells : Tells answer (IsReached edges old.starts.items edge)
  pub search : IsSearch edges new

-- the numbers are the edges that make the files
pub record AreMakers (g : EdgeGraph) (files : List FileNo) (makers : List ℕ) : Type 0 where
  pub are : (e : ℕ) → Contains makers e ↔ MakesOneOf g.edges (map (path_at g.files) files) e
  pub known : All (λ e. e < length g.edges) makers
