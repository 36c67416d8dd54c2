-- How files are collected, without duplicates.
use Rattle.std.specs.Prelude.{◌≡◌, ℕ, ◌<◌, Bool, false, if◌then◌else◌, List, [], ◌∷◌, ◌++◌, All, flat_map, is_none, filter, map, length, slice_index_or}
use Rattle.nj_names.specs.declared.files.FileNo.{FileNo}
use Rattle.nj_names.specs.Files.{path_at}
use Rattle.nj_names.specs.NameTables.{is_among, name_at, with_name}
use Rattle.nj_edges.specs.Edges.{EdgePaths, edge_at, inputs_of, maker_of}
use Rattle.nj_graph.specs.Graph.{GraphModel, edges_of, files_of}
use Rattle.nj_graph.specs.Handles.{GraphFile}

-- a set of files of a graph: a flag for each of its files
pub record Flags : Type 0 where
  pub graph : GraphModel
  pub flags : List Bool

-- the set has the files with the given paths and no others
pub record HasExactly (set : Flags) (paths : List (List ℕ)) : Type 0 where
  pub flagged : (number : ℕ) → number < length set.flags
      → slice_index_or set.flags number false ≡ is_among paths (name_at (files_of set.graph) number)

-- files of a graph, by their paths
pub record Collection : Type 0 where
  pub graph : GraphModel
  pub paths : List (List ℕ)

-- the files with the given numbers are those of the set
pub record AreAdded (set : Flags) (files : List FileNo) : Type 0 where
  pub exactly : HasExactly set (map (path_at (files_of set.graph)) files)
  pub known : All (λ file. file.0 < length (files_of set.graph)) files

-- the paths, with more paths added
abbrev pub with_paths : (paths more : List (List ℕ)) → List (List ℕ)
with_paths paths [] = paths
with_paths paths (path ∷ more) = with_paths (with_name paths path) more

-- a path, unless it is among the given paths already
abbrev pub new_path : (paths : List (List ℕ)) → (path : List ℕ) → List (List ℕ)
new_path paths path = if is_among paths path then [] else path ∷ []

-- the new paths among more paths, without duplicates
abbrev pub new_paths : (paths more : List (List ℕ)) → List (List ℕ)
new_paths paths [] = []
new_paths paths (path ∷ more) = new_path paths path ++ new_paths (with_name paths path) more

-- the paths of the files that no edge makes
abbrev pub sources_among : List GraphFile → List (List ℕ)
sources_among files = map (λ file. file.path) (filter (λ file. is_none (maker_of (edges_of file.graph) file.path)) files)

-- the inputs of edges
abbrev pub inputs_of_all : List EdgePaths → (numbers : List ℕ) → List (List ℕ)
inputs_of_all edges numbers = flat_map (λ e. inputs_of (edge_at edges e)) numbers
