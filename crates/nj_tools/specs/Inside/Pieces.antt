-- How texts are made piece by piece.
use Rattle.std.specs.Prelude.{ℕ, if◌then◌else◌, List, [], ◌++◌, codes, flat_map}
use Rattle.nj_text.specs.Calls.{is_empty}
use Rattle.nj_scope.specs.ReadingList.{ReadStatement}
use Rattle.nj_edges.specs.Edges.{outputs_of}
use Rattle.nj_graph.specs.Graph.{edges_of, rule_name_at}
use Rattle.nj_graph.specs.Handles.{GraphEdge, GraphFile, paths_of}
use Rattle.nj_tools.specs.Lines.{line, lines_after}
use Rattle.nj_requests.specs.declared.style.InputsStyle.{InputsStyle}
use Rattle.nj_tools.specs.Listings.{made_line, printed, terminated}
use Rattle.nj_tools.specs.Queries.{query_in}

-- a line for each file, after the same beginning
abbrev pub path_lines : (beginning : List ℕ) → List GraphFile → List ℕ
path_lines beginning files = flat_map (λ file. line (beginning ++ file.path)) files

-- validations under their title, if any
abbrev pub validation_lines : List GraphFile → List ℕ
validation_lines files = if is_empty files then [] else line (codes "  validations:") ++ path_lines (codes "    ") files

-- the outputs of edges
abbrev pub output_lines : List GraphEdge → List ℕ
output_lines edges = flat_map (λ edge. lines_after (codes "    ") (outputs_of (paths_of edge))) edges

-- the outputs of the edges, if any, that name a file as a validation, under their title
abbrev pub validated_lines : (users : List GraphEdge) → List ℕ
validated_lines users = if is_empty users then [] else line (codes "  validation for:") ++ output_lines users

-- the text for a file
abbrev pub query_of_file : List ReadStatement → GraphFile → List ℕ
query_of_file entries file = query_in entries (edges_of file.graph) file.path

-- the outputs of an edge with its rule
abbrev pub made_lines : List ReadStatement → GraphEdge → List ℕ
made_lines entries edge = flat_map (λ path. made_line path (rule_name_at entries edge.number)) (outputs_of (paths_of edge))

-- files with the rule that makes them
abbrev pub lines_of_rule : (rule : List ℕ) → List GraphFile → List ℕ
lines_of_rule rule files = flat_map (λ file. made_line file.path rule) files

-- paths as they are printed, each with its terminator
abbrev pub printed_text : InputsStyle → (paths : List (List ℕ)) → List ℕ
printed_text style paths = flat_map (λ path. terminated style (printed style path)) paths
