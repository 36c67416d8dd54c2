-- How the edges that serve commands are found. Nothing here has to be believed.
use Rattle.std.specs.Prelude.{◌≡◌, ◌<◌, ◌≤◌, ℕ, Some, false, List, length, map, slice_index, Contains}
use Rattle.nj_names.specs.NumberSets.{NumberSetModel}
use Rattle.nj_edges.specs.Edges.{EdgePaths, edge_at, inputs_of, maker_of}
use Rattle.nj_graph.specs.Graph.{GraphModel, edges_of}
use Rattle.nj_graph.specs.Handles.{edge_of, edges_in}
use Rattle.nj_audit.specs.declared.serving.Found.{Found}
use Rattle.nj_audit.specs.Serving.{ServesCommand}

abbrev pub HasCommand : List EdgePaths → (edge : ℕ) → Type 0
HasCommand edges e = (e < length edges) × ((edge_at edges e).is_phony ≡ false)

-- the edge makes one of the given files
abbrev pub MakesOneOf : List EdgePaths → (files : List (List ℕ)) → (edge : ℕ) → Type 0
MakesOneOf edges files e = Contains (map (maker_of edges) files) (Some e)

-- between two turns: the edges found serve commands; they include the edges with commands, and the makers of the inputs of each edge before
-- a place in the list
pub record FindsServing (edges : List EdgePaths) (found : NumberSetModel) (place : ℕ) : Type 0 where
  pub limit : found.limit ≡ length edges
  pub within : place ≤ length found.numbers
  pub sound : (e : ℕ) → Contains found.numbers e → ServesCommand edges e
  pub begun : (e : ℕ) → HasCommand edges e → Contains found.numbers e
  pub closed : (i e : ℕ) → i < place → MakesOneOf edges (inputs_of (edge_at edges (slice_index found.numbers i))) e
      → Contains found.numbers e

-- the edges found are those of a graph, by number
pub record AreFound (g : GraphModel) (found : Found) : Type 0 where
  pub limit : found.set.limit ≡ length (edges_of g)
  pub edges : map edge_of found.edges.items ≡ edges_in g found.set.numbers
