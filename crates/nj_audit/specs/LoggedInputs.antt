-- The findings about undeclared inputs: inputs that commands name, and inputs that a deps log names.
use Rattle.std.specs.Prelude.{◌≡◌, ℕ, nat_lt, Bool, true, false, ◌&&◌, if◌then◌else◌, Option, Some, None, List, [], ◌++◌, length, map, Contains}
use Rattle.std.specs.List.{filter_map}
use Rattle.nj_scope.specs.ReadingList.{ReadStatement}
use Rattle.nj_graph.specs.Edges.{maker_of}
use Rattle.nj_graph.specs.Graph.{GraphModel, edges_of, files_of}
use Rattle.nj_graph.specs.Undeclared.{AreThose, InputOfEdge, input_of_edge}
use Rattle.nj_graph.specs.declared.undeclared.UndeclaredInput.{UndeclaredInput as LoggedInput}
use Rattle.nj_audit.specs.Audit.{edge_numbers, path_of}
use Rattle.nj_audit.specs.Findings.{FindingModel, edge_finding}
use Rattle.nj_audit.specs.Roles.{makes_opened}
use Rattle.nj_audit.specs.UnorderedFiles.{AreNamedUnordered, IsUnordered, files_named, is_looked_at}
use Rattle.nj_audit.specs.declared.kinds.Kind.TheVariants.{UndeclaredInput}

-- an input that a log names, by the path of its file, if its edge and its file are in the graph
abbrev pub input_in : GraphModel → LoggedInput → Option InputOfEdge
input_in g input =
    if nat_lt input.edge.0 (length (edges_of g)) && nat_lt input.file.0 (length (files_of g))
    then Some (input_of_edge (files_of g) input) else None

-- the given inputs whose edges and files are in the graph
abbrev pub inputs_in : GraphModel → List LoggedInput → List InputOfEdge
inputs_in g inputs = filter_map (input_in g) inputs

-- The command of the edge or its response file names the input, which is unordered with the edge: so it is found by the names in the
-- command.
pub record IsNamedUnordered (g : GraphModel) (entries : List ReadStatement) (folder : List ℕ) (input : InputOfEdge) : Type 0 where
  pub named : Contains (map (path_of g) (files_named g entries folder input.edge)) input.path
  pub is_unordered : IsUnordered g input.edge input.path

-- An input that a log names is a finding of its own: its edge is examined, the input is not made by an edge that makes the manifest, and it
-- is not found by the names in the command.
pub record IsLoggedAlone (g : GraphModel) (entries : List ReadStatement) (folder : List ℕ) (input : InputOfEdge) : Type 0 where
  pub is_looked_at : is_looked_at g entries input.edge ≡ true
  pub is_no_manifest : makes_opened g (maker_of (edges_of g) input.path) ≡ false
  pub is_new : ¬ IsNamedUnordered g entries folder input

-- an undeclared input as a finding
abbrev pub finding_of_input : GraphModel → InputOfEdge → FindingModel
finding_of_input g input = edge_finding g input.edge UndeclaredInput input.path

-- The findings about undeclared inputs: first those by the names in commands, and then those by a log alone, in the order of the log's
-- inputs.
pub record AreUndeclaredFindings (g : GraphModel) (entries : List ReadStatement) (folder : List ℕ) (logged : List InputOfEdge)
    (found : List FindingModel) : Type 0 where
  pub named : List FindingModel
  pub are_named : AreNamedUnordered g entries folder (edge_numbers g) named
  pub others : List InputOfEdge
  pub are_others : AreThose (IsLoggedAlone g entries folder) logged others
  pub finds : found ≡ named ++ map (finding_of_input g) others

-- Undeclared inputs are searched for only if they are requested.
abbrev pub AreFoundIf : (asked : Bool) → GraphModel → List ReadStatement → (folder : List ℕ) → (logged : List InputOfEdge)
    → List FindingModel → Type 0
AreFoundIf true g entries folder logged found = AreUndeclaredFindings g entries folder logged found
AreFoundIf false g entries folder logged found = found ≡ []
