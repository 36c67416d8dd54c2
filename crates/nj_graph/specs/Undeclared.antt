-- Inputs that a deps log names for edges, and that the edges do not declare ("Deps" in the manual).
use Rattle.std.specs.Prelude.{◌≡◌, ℕ, if◌then◌else◌, Option, Some, option_and_then, List, [], ◌∷◌, map, length, codes, bytes_eq}
use Rattle.std.specs.List.{flat_map, range_with_len}
use Rattle.nj_text.specs.Paths.{clean_path_of}
use Rattle.nj_names.specs.Files.{path_at}
use Rattle.nj_scope.specs.ReadingList.{ReadStatement}
use Rattle.nj_edges.specs.Changes.{IsOrNeeds}
use Rattle.nj_edges.specs.Edges.{EdgePaths, is_among, maker_of}
use Rattle.nj_edges.specs.Repeats.{each_once}
use Rattle.nj_deps.specs.Logs.{LogModel, output_of}
use Rattle.nj_statements.specs.EdgeList.{edges_read, paths_of_edges}
use Rattle.nj_graph.specs.DepsLogs.{number_logged, paths_logged}
use Rattle.nj_graph.specs.declared.undeclared.UndeclaredInput.{UndeclaredInput}

-- an edge, and the path of one of its inputs
pub record InputOfEdge : Type 0 where
  pub edge : ℕ
  pub path : List ℕ

-- Another edge makes the file, and the edge does not need that maker through any chain of inputs.
pub record IsUndeclared (edges : List EdgePaths) (input : InputOfEdge) : Type 0 where
  pub maker : ℕ
  pub makes : maker_of edges input.path ≡ Some maker
  pub not_needed : ¬ IsOrNeeds edges input.edge maker

-- The clean paths on which an output depends by a log, without duplicates, in the order of the log; no paths of an
-- output for which it names the exact path `build.ninja`, since that entry means only that the output is built again
-- after the manifest was.
abbrev pub paths_of_output : LogModel → (output : Option ℕ) → List (List ℕ)
paths_of_output log output =
    let paths = paths_logged log (option_and_then (output_of log.outputs) output) in
    if is_among paths (codes "build.ninja") then [] else each_once bytes_eq (map clean_path_of paths)

-- the given paths as inputs of the edge
abbrev pub inputs_of_edge : (edge : ℕ) → (paths : List (List ℕ)) → List InputOfEdge
inputs_of_edge edge paths = map (λ path. record { edge = edge; path = path }) paths

-- the files that a log names for the first outputs of edges with `deps`: by edge, and then as above
abbrev pub inputs_named : LogModel → List ReadStatement → List InputOfEdge
inputs_named log entries =
    flat_map (λ edge. inputs_of_edge edge (paths_of_output log (number_logged log entries edge)))
    (range_with_len 0 (length (edges_read entries)))

-- the items, among the given ones, that have a property, in their order
pub data AreThose {A : Type 0} (P : A → Type 0) : (items those : List A) → Type 0 where
  none : AreThose P [] []
  has_it : {item : A} {items those : List A} → P item → AreThose P items those → AreThose P (item ∷ items) (item ∷ those)
  lacks_it : {item : A} {items those : List A} → ¬ P item → AreThose P items those → AreThose P (item ∷ items) those

-- the inputs that a log names and that are not declared
abbrev pub AreUndeclared : LogModel → List ReadStatement → List InputOfEdge → Type 0
AreUndeclared log entries inputs = AreThose (IsUndeclared (paths_of_edges (edges_read entries))) (inputs_named log entries) inputs

-- by the paths of files
abbrev pub input_of_edge : (files : List (List ℕ)) → UndeclaredInput → InputOfEdge
input_of_edge files input = record { edge = input.edge.0; path = path_at files input.file }
