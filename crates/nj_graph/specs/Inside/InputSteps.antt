-- How the code joins inputs that are named for edges, edge by edge. Nothing here has to be believed.
use Rattle.std.specs.Prelude.{◌≡◌, ℕ, ◌<◌, Option, Some, None, List, [], ◌∷◌, fold, length, map, slice_get, slice_index_or}
use Rattle.nj_names.specs.NameTables.{name_at}
use Rattle.nj_scope.specs.Readings.{IsPrefix}
use Rattle.nj_discovered.specs.Discoveries.{DiscoveriesModel, FoundModel}
use Rattle.nj_edges.specs.Edges.{EdgePaths}
use Rattle.nj_edges.specs.Graph.{FinishesAs}
use Rattle.nj_edges.specs.Joining.{with_added}
use Rattle.nj_edges.specs.MoreInputs.{InputTable, at_next_edge, new_inputs, with_new_input}
use Rattle.nj_edges.specs.EdgeGraphs.{EdgeGraph}
use Rattle.nj_edges.specs.declared.graph.Finished.{Finished}

-- the inputs that are named for edges, by edge
abbrev pub AreNamed : (named : (edge : ℕ) → List (List ℕ)) → (inputs : List (List (List ℕ))) → Type 0
AreNamed named inputs = (n : ℕ) → n < length inputs → slice_get inputs n ≡ Some (named n)

-- the edges with the given inputs, from the next edge on
abbrev pub joined_edges : (inputs : List (List (List ℕ))) → InputTable → InputTable
joined_edges [] t = t
joined_edges (paths ∷ inputs) t = joined_edges inputs (at_next_edge (fold with_new_input t paths))

abbrev pub edges_with : (inputs : List (List (List ℕ))) → List EdgePaths → List EdgePaths
edges_with [] edges = edges
edges_with (paths ∷ inputs) [] = []
edges_with (paths ∷ inputs) (e ∷ edges) =
    with_added (record { outputs = []; inputs = new_inputs e paths }) e ∷ edges_with inputs edges

-- the result of a graph's edges with the given inputs; files keep their numbers
pub record FinishesWith (inputs : List (List (List ℕ))) (graph : EdgeGraph) (finished : Finished) : Type 0 where
  pub files : List (List ℕ)
  pub longer : IsPrefix graph.files files
  pub finishes : FinishesAs files (edges_with inputs graph.edges) finished

-- ---- inputs that were discovered

abbrev pub paths_found : DiscoveriesModel → FoundModel → List (List ℕ)
paths_found d found = map (name_at d.names) found.inputs

abbrev pub inputs_found : DiscoveriesModel → List (List (List ℕ))
inputs_found d = map (paths_found d) d.edges

-- the numbers of the files at the given paths, where they are known
pub record AreFilesOf (paths files : List (List ℕ)) (numbers : List (Option ℕ)) : Type 0 where
  pub count : length numbers ≡ length paths
  pub each : (n file : ℕ) → slice_index_or numbers n None ≡ Some file → slice_get files file ≡ Some (name_at paths n)
