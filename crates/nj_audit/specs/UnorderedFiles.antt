-- Files that the commands of edges name, and that other edges make, unordered with them.
use Rattle.std.specs.Prelude.{◌≡◌, ℕ, ◌==◌, Bool, true, false, ◌&&◌, ◌||◌, not, if◌then◌else◌, Option, None, Some, option_and_then, List, [], ◌∷◌, ◌++◌, codes, length, map}
use Rattle.std.specs.List.{filter_map}
use Rattle.nj_names.specs.NumberSets.{has}
use Rattle.nj_scope.specs.ReadingList.{ReadStatement}
use Rattle.nj_edges.specs.Changes.{IsOrNeeds}
use Rattle.nj_graph.specs.Edges.{inputs_of, is_among, maker_of, users_of}
use Rattle.nj_graph.specs.Graph.{GraphModel, edges_of, files_of, late_text_of}
use Rattle.nj_audit.specs.Audit.{command_of, has_command, has_generator, path_of, paths_at, rule_number}
use Rattle.nj_audit.specs.Findings.{FindingModel, edge_finding}
use Rattle.nj_audit.specs.NamedPaths.{SeenName, number_at, path_seen}
use Rattle.nj_audit.specs.ReadWords.{command_names}
use Rattle.nj_audit.specs.Roles.{is_run_by_hand, makers_of_opened}
use Rattle.nj_audit.specs.WordNames.{is_bare}
use Rattle.nj_audit.specs.declared.kinds.Kind.TheVariants.{UndeclaredInput}

-- ---- files that an edge names

-- the contents of an edge's response file, if the file has a name
abbrev pub response_of : List ReadStatement → (edge : ℕ) → List ℕ
response_of entries edge =
    if length (late_text_of entries edge (codes "rspfile")) == 0 then [] else late_text_of entries edge (codes "rspfile_content")

-- the names in the command of an edge and in its response file
abbrev pub names_at : List ReadStatement → (edge : ℕ) → List SeenName
names_at entries edge = command_names (command_of entries edge) ++ command_names (response_of entries edge)

-- some edge has the path as an input
abbrev pub is_input : GraphModel → (path : List ℕ) → Bool
is_input g path = not (length (users_of (edges_of g) path) == 0)

-- a name means the file at a path; a bare name does so only if some edge has the path as an input
abbrev pub is_meant : GraphModel → (name path : List ℕ) → Bool
is_meant g name path = not (is_bare name) || is_input g path

-- the file, if the name means it
abbrev pub file_if_meant : GraphModel → (name : List ℕ) → (file : ℕ) → Option ℕ
file_if_meant g name file = if is_meant g name (path_of g file) then Some file else None

-- the file at the path of a name, as seen from the directory, if the name means it
abbrev pub file_named : GraphModel → (folder : List ℕ) → SeenName → Option ℕ
file_named g folder seen =
    option_and_then (file_if_meant g seen.name) (option_and_then (number_at (files_of g)) (path_seen folder seen))

-- An edge is examined if it runs a command in a build and does not regenerate the build: a generator reads and writes what it likes.
abbrev pub is_looked_at : GraphModel → List ReadStatement → (edge : ℕ) → Bool
is_looked_at g entries edge = has_command g edge && not (has_generator entries edge) && not (is_run_by_hand g entries edge)

-- the files that the command of an edge and its response file may name, as seen from the directory
abbrev pub files_named : GraphModel → List ReadStatement → (folder : List ℕ) → (edge : ℕ) → List ℕ
files_named g entries folder edge =
    if is_looked_at g entries edge then filter_map (file_named g folder) (names_at entries edge) else []

-- ---- which files are unordered

-- an edge has the rule and the inputs of another edge
pub record IsTwin (g : GraphModel) (edge other : ℕ) : Type 0 where
  pub rule : rule_number g edge ≡ rule_number g other
  pub inputs : inputs_of (paths_at g edge) ≡ inputs_of (paths_at g other)

-- An edge has a command, is not a twin, and does not make a file of the manifest: Ninja makes those files before it runs any other command.
pub record IsOther (g : GraphModel) (edge other : ℕ) : Type 0 where
  pub is_no_phony : (paths_at g other).is_phony ≡ false
  pub makes_no_manifest : has (makers_of_opened g) other ≡ false
  pub is_no_twin : ¬ IsTwin g edge other

-- A file is unordered with an edge, so that it may come too late: it is made by another edge that has a command, is not a twin and does not
-- make a file of the manifest, and neither of the two edges needs the other through any chain of inputs.
pub record IsUnordered (g : GraphModel) (edge : ℕ) (path : List ℕ) : Type 0 where
  pub maker : ℕ
  pub made : maker_of (edges_of g) path ≡ Some maker
  pub is_other : IsOther g edge maker
  pub is_unneeded : ¬ IsOrNeeds (edges_of g) edge maker
  pub is_no_user : ¬ IsOrNeeds (edges_of g) maker edge

-- The paths of the given files that are unordered with an edge, without duplicates, in their order.
pub data AreUnordered (g : GraphModel) (edge : ℕ) : (files : List ℕ) → (paths : List (List ℕ)) → Type 0 where
  none : AreUnordered g edge [] []
  unordered : {files : List ℕ} {paths : List (List ℕ)} (file : ℕ) → AreUnordered g edge files paths
      → IsUnordered g edge (path_of g file) → is_among paths (path_of g file) ≡ false
      → AreUnordered g edge (files ++ file ∷ []) (paths ++ path_of g file ∷ [])
  again : {files : List ℕ} {paths : List (List ℕ)} (file : ℕ) → AreUnordered g edge files paths
      → is_among paths (path_of g file) ≡ true → AreUnordered g edge (files ++ file ∷ []) paths
  ordered : {files : List ℕ} {paths : List (List ℕ)} (file : ℕ) → AreUnordered g edge files paths
      → ¬ IsUnordered g edge (path_of g file) → AreUnordered g edge (files ++ file ∷ []) paths

-- The findings about the files that the given edges name and that are unordered with them, edge by edge.
pub data AreNamedUnordered (g : GraphModel) (entries : List ReadStatement) (folder : List ℕ) :
    (edges : List ℕ) → List FindingModel → Type 0 where
  no_edges : AreNamedUnordered g entries folder [] []
  one_more : {edges : List ℕ} {found : List FindingModel} {edge : ℕ} {paths : List (List ℕ)}
      → AreNamedUnordered g entries folder edges found
      → AreUnordered g edge (files_named g entries folder edge) paths
      → AreNamedUnordered g entries folder (edges ++ edge ∷ []) (found ++ map (edge_finding g edge UndeclaredInput) paths)
