-- The output of `query` for a file: its maker with the inputs, and the outputs made from it.
use Rattle.std.specs.Prelude.{ℕ, if◌then◌else◌, Option, Some, None, List, [], ◌++◌, flat_map, codes}
use Rattle.nj_text.specs.Calls.{is_empty}
use Rattle.nj_scope.specs.ReadingList.{ReadStatement}
use Rattle.nj_edges.specs.Edges.{EdgePaths, edge_at, outputs_of, maker_of, users_of, validation_users_of}
use Rattle.nj_statements.specs.EdgeList.{edges_read, paths_of_edges}
use Rattle.nj_graph.specs.Graph.{rule_name_at}
use Rattle.nj_tools.specs.Lines.{line, lines_after}

-- a title and a line for each path
unfoldable pub section : (title : List ℕ) → (paths : List (List ℕ)) → List ℕ
section title paths = line title ++ lines_after (codes "    ") paths

-- the inputs of an edge by kind
unfoldable pub inputs_by_kind : EdgePaths → List ℕ
inputs_by_kind e =
    lines_after (codes "    ") e.explicit_inputs
    ++ lines_after (codes "    | ") e.implicit_inputs
    ++ lines_after (codes "    || ") e.order_only_inputs

-- the edge that makes the file, with a section of its validations, if any; a source has no lines for an edge
unfoldable pub maker_text : List ReadStatement → List EdgePaths → (maker : Option ℕ) → List ℕ
maker_text entries edges None = []
maker_text entries edges (Some edge) =
    let e = edge_at edges edge in
    line (codes "  input: " ++ rule_name_at entries edge)
    ++ inputs_by_kind e ++ (if is_empty e.validations then [] else section (codes "  validations:") e.validations)

-- the outputs of edges
abbrev pub outputs_of_all : List EdgePaths → (numbers : List ℕ) → List (List ℕ)
outputs_of_all edges numbers = flat_map (λ edge. outputs_of (edge_at edges edge)) numbers

-- the text of one file; a section of validations only if an edge names the file as a validation
unfoldable pub query_in : List ReadStatement → List EdgePaths → (path : List ℕ) → List ℕ
query_in entries edges path =
    let users = validation_users_of edges path in
    line (path ++ codes ":")
    ++ maker_text entries edges (maker_of edges path)
    ++ section (codes "  outputs:") (outputs_of_all edges (users_of edges path))
    ++ (if is_empty users then [] else section (codes "  validation for:") (outputs_of_all edges users))

-- the texts of the files in their order; a file that is named again is listed again
abbrev pub query_text : List ReadStatement → (paths : List (List ℕ)) → List ℕ
query_text entries paths = flat_map (query_in entries (paths_of_edges (edges_read entries))) paths
