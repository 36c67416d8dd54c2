-- How undeclared inputs are found, one after the other.
use Rattle.std.specs.Prelude.{◌≡◌, ◌↔◌, ℕ, ◌<◌, true, Option, Some, None, if◌then◌else◌, List, [], ◌∷◌, ◌++◌, map, length, position, slice_index_or, bytes_eq, All, Contains}
use Rattle.std.specs.List.{flat_map, range_with_len}
use Rattle.nj_text.specs.Paths.{clean_path_of}
use Rattle.nj_names.specs.NameTables.{name_at}
use Rattle.nj_names.specs.NumberSets.{has, with_number}
use Rattle.nj_edges.specs.EdgeGraphs.{EdgeGraph}
use Rattle.nj_edges.specs.Edges.{is_among, maker_of}
use Rattle.nj_edges.specs.Repeats.{each_once}
use Rattle.nj_deps.specs.Logs.{LogModel}
use Rattle.nj_graph.specs.Undeclared.{AreThose, InputOfEdge, IsUndeclared, input_of_edge, inputs_of_edge, paths_of_output}
use Rattle.nj_graph.specs.declared.found_inputs.FoundInputs.{FoundInputs}
use Rattle.nj_graph.specs.declared.made_files.MadeFile.{MadeFile}
use Rattle.nj_graph.specs.declared.undeclared.UndeclaredInput.{UndeclaredInput}

-- ---- the outputs of edges

-- the number of the file at a path, and of the edge that makes it; `None` if no edge makes it
abbrev pub MadeIs : EdgeGraph → (path : List ℕ) → Option MadeFile → Type 0
MadeIs g path None = maker_of g.edges path ≡ None
MadeIs g path (Some made) = (position (bytes_eq path) g.files ≡ Some made.file.0) × (maker_of g.edges path ≡ Some made.maker.0)

-- they are numbers of the graph
abbrev pub IsKnownIfAny : EdgeGraph → Option MadeFile → Type 0
IsKnownIfAny g None = Unit {0}
IsKnownIfAny g (Some made) = (made.file.0 < length g.files) × (made.maker.0 < length g.edges)

-- by the numbers of paths
abbrev pub AreMade : EdgeGraph → (paths : List (List ℕ)) → List (Option MadeFile) → Type 0
AreMade g paths made = (n : ℕ) → n < length made → MadeIs g (clean_path_of (name_at paths n)) (slice_index_or made n None)

-- ---- the inputs found

abbrev pub IsKnownInput : EdgeGraph → UndeclaredInput → Type 0
IsKnownInput g input = (input.edge.0 < length g.edges) × (input.file.0 < length g.files)

pub record IsFound (g : EdgeGraph) (f : FoundInputs) : Type 0 where
  pub limit : f.files.limit ≡ length g.files
  pub search : f.search ≡ g.edges
  pub known : All (IsKnownInput g) f.inputs.items

-- a file is an undeclared input of an edge, at one of the given paths
pub record IsListed (g : EdgeGraph) (edge : ℕ) (paths : List (List ℕ)) (file : ℕ) : Type 0 where
  pub path : List ℕ
  pub file_is : position (bytes_eq path) g.files ≡ Some file
  pub among : is_among paths path ≡ true
  pub undeclared : IsUndeclared g.edges (record { edge = edge; path = path })

-- the found inputs are the undeclared inputs among some inputs, then those of an edge among the given paths
pub record FindsAt (g : EdgeGraph) (edge : ℕ) (before : List InputOfEdge) (paths : List (List ℕ)) (f : FoundInputs) : Type 0 where
  pub those : AreThose (IsUndeclared g.edges) (before ++ inputs_of_edge edge (each_once bytes_eq paths))
      (map (input_of_edge g.files) f.inputs.items)
  pub listed : (n : ℕ) → Contains f.files.numbers n ↔ IsListed g edge paths n

-- a file is added, unless it is there already, and then the input
pub record AddsFile (input : UndeclaredInput) (old new : FoundInputs) : Type 0 where
  pub files : new.files.numbers ≡ with_number old.files.numbers input.file.0
  pub inputs : new.inputs.items ≡ (if has old.files.numbers input.file.0 then old.inputs.items else old.inputs.items ++ input ∷ [])
  pub limit : new.files.limit ≡ old.files.limit
  pub search : new.search ≡ old.search

-- ---- all edges

-- the files that a log names for outputs with the given numbers, by edge
abbrev pub inputs_by_number : LogModel → (numbers : List (Option ℕ)) → List InputOfEdge
inputs_by_number log numbers =
    flat_map (λ edge. inputs_of_edge edge (paths_of_output log (slice_index_or numbers edge None))) (range_with_len 0 (length numbers))
