-- Which nodes a drawing has: of edges, and of files.
use Rattle.std.specs.Prelude.{ℕ, ◌==◌, Bool, false, ◌&&◌, ◌||◌, if◌then◌else◌, Option, Some, None, option_map, unwrap_or, List, [], ◌∷◌, ◌++◌, map, take}
use Rattle.std.specs.List.{fold, list_any}
use Rattle.nj_graph.specs.Edges.{inputs_of, maker_of, outputs_of}
use Rattle.nj_graph.specs.Graph.{edges_of}
use Rattle.nj_graph.specs.Handles.{GraphEdge, GraphFile, edge_in, files_in, number_of, paths_of}
use Rattle.nj_questions.specs.Questions.{DrawModel}

-- ---- nodes

-- a node is that of an edge, or that of a file
pub data Node : Type 0 where
  of_edge : GraphEdge → Node
  of_file : GraphFile → Node

-- it is that of the edge with the given number
abbrev pub is_edge : (number : ℕ) → Node → Bool
is_edge number (of_edge edge) = number == edge.number
is_edge number (of_file file) = false

-- it is that of the file with the given number
abbrev pub is_file : (number : ℕ) → Node → Bool
is_file number (of_edge edge) = false
is_file number (of_file file) = number == number_of file

-- a node is among the given ones
abbrev pub has_node : List Node → Node → Bool
has_node nodes (of_edge edge) = list_any (is_edge edge.number) nodes
has_node nodes (of_file file) = list_any (is_file (number_of file)) nodes

-- with `--fold` a phony edge and its outputs have one node
abbrev pub is_folded : (folds : Bool) → GraphEdge → Bool
is_folded folds edge = folds && (paths_of edge).is_phony

-- the node of a file by the edge that makes it: its own, unless it is folded with the edge
abbrev pub node_made : (folds : Bool) → GraphFile → Option GraphEdge → Node
node_made folds file (Some edge) = if is_folded folds edge then of_edge edge else of_file file
node_made folds file None = of_file file

-- the node of a file
abbrev pub node_of : (folds : Bool) → GraphFile → Node
node_of folds file = node_made folds file (option_map (edge_in file.graph) (maker_of (edges_of file.graph) file.path))

-- the outputs of an edge
abbrev pub output_files : GraphEdge → List GraphFile
output_files edge = files_in edge.graph (outputs_of (paths_of edge))

-- the inputs of an edge: explicit, implicit and order-only; those that builds discovered are the last implicit ones
abbrev pub input_files : GraphEdge → List GraphFile
input_files edge = files_in edge.graph (inputs_of (paths_of edge))

-- ---- which nodes are drawn

-- one more node is mentioned: it is added at the end, unless it is among the others
abbrev pub mention : List Node → Node → List Node
mention nodes node = if has_node nodes node then nodes else nodes ++ node ∷ []

-- an edge mentions itself, its outputs, and the first of its inputs
abbrev pub mentioned_by : DrawModel → GraphEdge → List Node
mentioned_by options edge =
    of_edge edge ∷ map (node_of options.fold) (output_files edge ++ take (unwrap_or options.inputs 12) (input_files edge))

-- Without `--affected` it does so only if one of its outputs was mentioned.
abbrev pub mention_edge : DrawModel → List Node → GraphEdge → List Node
mention_edge options nodes edge =
    if options.affected || list_any (λ file. has_node nodes (node_of options.fold file)) (output_files edge)
    then fold mention nodes (mentioned_by options edge) else nodes

-- the given files are mentioned first, and then all that the edges mention
abbrev pub mentioned : DrawModel → List GraphFile → List GraphEdge → List Node
mentioned options files edges = fold (mention_edge options) (fold mention [] (map (node_of options.fold) files)) edges

-- at most as many as the limit
abbrev pub up_to : {A : Type 0} → Option ℕ → List A → List A
up_to (Some limit) items = take limit items
up_to None items = items

-- the drawn nodes: as many of the mentioned ones as the limit allows
abbrev pub drawn_nodes : DrawModel → List GraphFile → List GraphEdge → List Node
drawn_nodes options files edges = up_to options.limit (mentioned options files edges)
