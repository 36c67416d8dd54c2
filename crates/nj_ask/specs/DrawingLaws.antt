-- What drawings have in common: how many nodes they have, which nodes arrows connect, and when all edges are drawn.
use Rattle.std.specs.Prelude.{◌≡◌, ℕ, ◌≤◌, Bool, true, false, unwrap_or, Some, List, length, All, Contains}
use Rattle.std.specs.List.{IsDistinct}
use Rattle.nj_graph.specs.Distances.{IsNeeded}
use Rattle.nj_graph.specs.Graph.{edges_of}
use Rattle.nj_graph.specs.Handles.{GraphEdge, GraphFile, edge_in, files_in, number_of}
use Rattle.nj_questions.specs.Questions.{DrawModel}
use Rattle.nj_ask.specs.declared.discovered.DiscoveredGraph.{DiscoveredGraph}
use Rattle.nj_ask.specs.DrawnNodes.{Node, of_edge, of_file, drawn_nodes, has_node, input_files, is_edge, is_file, mentioned, up_to}
use Rattle.nj_ask.specs.Drawings.{End, ListsEdges, drawn_ends, node_name}

-- a node is that of the same edge or file as another
abbrev pub is_same : Node → Node → Bool
is_same (of_edge edge) node = is_edge edge.number node
is_same (of_file file) node = is_file (number_of file) node

-- Each node of a drawing stands for a different edge or file.
abbrev pub NodesAreDistinct : Type 0
NodesAreDistinct = (options : DrawModel) (files : List GraphFile) (edges : List GraphEdge)
    → IsDistinct is_same (drawn_nodes options files edges)

-- There are at most as many nodes as the limit.
abbrev pub NodesAreLimited : Type 0
NodesAreLimited = (options : DrawModel) (files : List GraphFile) (edges : List GraphEdge) (limit : ℕ)
    → options.limit ≡ Some limit → length (drawn_nodes options files edges) ≤ limit

-- An arrow's end has the name of a node that is drawn; its other end is a drawn edge.
abbrev pub EndsAreDrawn : Type 0
EndsAreDrawn = (nodes others : List Node) (ends : List End)
    → All (λ end. (node : Node) × Contains nodes node × (node_name node ≡ node_name end.node)) (drawn_ends nodes others ends)

-- Where the limits leave nothing out, each edge that the files need is drawn.
abbrev pub NeededAreDrawn : Type 0
NeededAreDrawn = (known : DiscoveredGraph) (options : DrawModel) (files : List (List ℕ)) (edges : List GraphEdge)
    → options.affected ≡ false → ListsEdges known files false edges
    → ((edge : GraphEdge) → Contains edges edge → length (input_files edge) ≤ unwrap_or options.inputs 12)
    → up_to options.limit (mentioned options (files_in known.graph files) edges) ≡ mentioned options (files_in known.graph files) edges
    → (edge : ℕ) → IsNeeded (edges_of known.graph) files edge
    → has_node (drawn_nodes options (files_in known.graph files) edges) (of_edge (edge_in known.graph edge)) ≡ true
