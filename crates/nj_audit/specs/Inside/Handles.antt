-- Edges and files as values that know their graph. Nothing here has to be believed.
use Rattle.std.specs.Prelude.{◌≡◌, ℕ, Bool, ◌&&◌, if◌then◌else◌, Option, List, [], ◌∷◌, map}
use Rattle.nj_scope.specs.ReadingList.{ReadStatement}
use Rattle.nj_graph.specs.Edges.{is_among}
use Rattle.nj_graph.specs.Graph.{GraphModel}
use Rattle.nj_graph.specs.Handles.{GraphEdge, GraphFile, file_in, files_in, number_of}
use Rattle.nj_graph.specs.Undeclared.{InputOfEdge}
use Rattle.nj_audit.specs.Audit.{command_of, first_output_at, has_command, missing_source, path_of}
use Rattle.nj_audit.specs.Findings.{FindingModel, edge_finding}
use Rattle.nj_audit.specs.declared.kinds.Kind.{Kind}
use Rattle.nj_audit.specs.declared.kinds.Kind.TheVariants.{RepeatedCommand}

-- a finding at the statement of an edge
abbrev pub finding_at : GraphEdge → Kind → (name : List ℕ) → FindingModel
finding_at edge kind name = edge_finding edge.graph edge.number kind name

-- the file as an input of the edge with the given number
abbrev pub input_of : (edge : ℕ) → GraphFile → InputOfEdge
input_of edge file = record { edge = edge; path = file.path }

-- all files are in the graph
abbrev pub AreIn : GraphModel → List GraphFile → Type 0
AreIn g files = files ≡ files_in g (map (λ file. file.path) files)

-- the files with the given numbers
abbrev pub files_numbered : GraphModel → (numbers : List ℕ) → List GraphFile
files_numbered g numbers = map (λ number. file_in g (path_of g number)) numbers

-- the files have the given numbers
abbrev pub HaveNumbers : GraphModel → List GraphFile → (numbers : List ℕ) → Type 0
HaveNumbers g files numbers = files ≡ files_numbered g numbers

-- the finding about a file, if it is a missing source
abbrev pub missing_file : (missing serving : List Bool) → GraphFile → Option FindingModel
missing_file missing serving file = missing_source file.graph missing serving (number_of file)

-- the finding about an edge, if its command is among the given commands
abbrev pub repeated_among : GraphEdge → List ReadStatement → (commands : List (List ℕ)) → List FindingModel
repeated_among edge entries commands =
    if has_command edge.graph edge.number && is_among commands (command_of entries edge.number)
    then finding_at edge RepeatedCommand (first_output_at edge.graph edge.number) ∷ [] else []
