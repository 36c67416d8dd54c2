-- Drawings of edges and files, in the language of Graphviz.
use Rattle.std.specs.Prelude.{◌≡◌, ◌↔◌, ℕ, ◌==◌, Bool, true, false, ◌&&◌, not, if◌then◌else◌, Option, Some, None, unwrap_or, List, [], ◌∷◌, ◌++◌, map, length, take, drop, slice_get, codes, Contains}
use Rattle.std.specs.Fmt.{decimal}
use Rattle.std.specs.List.{filter, flat_map}
use Rattle.std.specs.List.Sorted.{IsStrictlyIncreasing}
use Rattle.nj_graph.specs.Edges.{first_output}
use Rattle.nj_graph.specs.Graph.{rule_name}
use Rattle.nj_graph.specs.Handles.{GraphEdge, GraphFile, ListsNeeded, detail_of_edge, edges_in, files_in, number_of, paths_of}
use Rattle.nj_questions.specs.Questions.{DrawModel}
use Rattle.nj_tools.specs.declared.EdgeDiscovery.{EdgeDiscovery}
use Rattle.nj_ask.specs.declared.discovered.DiscoveredGraph.{DiscoveredGraph}
use Rattle.nj_ask.specs.DiscoveredGraphs.{IsTouched}
use Rattle.nj_ask.specs.DrawnNodes.{Node, of_edge, of_file, drawn_nodes, has_node, input_files, is_folded, node_of, output_files}
use Rattle.nj_ask.specs.Quotes.{escapes, quoted}

-- ---- arrows

-- the other end of an arrow from or to an edge, and the style of the arrow
pub record End : Type 0 where
  pub node : Node
  pub style : List ℕ

-- the end of an arrow at a file
abbrev pub end_at : (folds : Bool) → (style : List ℕ) → GraphFile → End
end_at folds style file = record { node = node_of folds file; style = style }

-- the ends at files
abbrev pub ends : (folds : Bool) → (style : List ℕ) → List GraphFile → List End
ends folds style files = map (end_at folds style) files

-- the files to which an edge has arrows: its outputs, unless they are folded into it
abbrev pub ends_after : (folds : Bool) → GraphEdge → List End
ends_after folds edge = if is_folded folds edge then [] else ends folds [] (output_files edge)

-- how many implicit inputs an edge has without the discovered ones
abbrev pub stated_count : Option EdgeDiscovery → GraphEdge → ℕ
stated_count (Some discovery) edge = discovery.stated_inputs
stated_count None edge = length (paths_of edge).implicit_inputs

-- the inputs from which it has arrows: the discovered ones are dashed, the order-only ones dotted
abbrev pub ends_before : List EdgeDiscovery → (folds : Bool) → GraphEdge → List End
ends_before discoveries folds edge =
    let inputs : List (List ℕ) → List GraphFile = files_in edge.graph in
    let paths = paths_of edge in
    let stated = stated_count (slice_get discoveries edge.number) edge in
    ends folds [] (inputs paths.explicit_inputs) ++ ends folds [] (take stated (inputs paths.implicit_inputs))
    ++ ends folds (codes " [style=dashed]") (drop stated (inputs paths.implicit_inputs))
    ++ ends folds (codes " [style=dotted]") (inputs paths.order_only_inputs)

-- the ends at drawn nodes that are not among the `others`; of several at one node, the first
abbrev pub drawn_ends : (nodes others : List Node) → List End → List End
drawn_ends nodes others [] = []
drawn_ends nodes others (end ∷ ends) =
    if has_node nodes end.node && not (has_node others end.node) then end ∷ drawn_ends nodes (others ++ end.node ∷ []) ends
    else drawn_ends nodes others ends

-- ---- lines

-- the name of a node: a letter, and the number of its edge or file
abbrev pub node_name : Node → List ℕ
node_name (of_edge edge) = codes "e" ++ decimal edge.number
node_name (of_file file) = codes "f" ++ decimal (number_of file)

-- how many inputs of an edge are not drawn
abbrev pub left_out : (folds : Bool) → (nodes : List Node) → GraphEdge → ℕ
left_out folds nodes edge = length (filter (λ file. not (has_node nodes (node_of folds file))) (input_files edge))

-- how many are not drawn, between two texts; empty if all are
abbrev pub more_text : (before : List ℕ) → (count : ℕ) → (after : List ℕ) → List ℕ
more_text before count after = if count == 0 then [] else before ++ codes "and " ++ decimal count ++ codes " more" ++ after

-- a point, with the first output of the edge as a tooltip
abbrev pub point_look : GraphEdge → (more : ℕ) → List ℕ
point_look edge more =
    codes "shape=point, tooltip=" ++ quoted (unwrap_or (first_output (paths_of edge)) [])
    ++ more_text (codes ", xlabel=\"") more (codes "\"")

-- an ellipse with the rule of the edge
abbrev pub ellipse_look : GraphEdge → (more : ℕ) → List ℕ
ellipse_look edge more =
    codes "shape=ellipse, label=\"" ++ escapes (rule_name edge.graph.declarations.rules (detail_of_edge edge).rule)
    ++ more_text (codes "\\n") more [] ++ codes "\""

-- how an edge is drawn: as a point if it is folded
abbrev pub edge_look : (folds : Bool) → (nodes : List Node) → GraphEdge → List ℕ
edge_look folds nodes edge =
    if is_folded folds edge then point_look edge (left_out folds nodes edge) else ellipse_look edge (left_out folds nodes edge)

-- a file is a box with its path
abbrev pub node_look : (folds : Bool) → (nodes : List Node) → Node → List ℕ
node_look folds nodes (of_edge edge) = edge_look folds nodes edge
node_look folds nodes (of_file file) = codes "label=" ++ quoted file.path

-- the line of a node
abbrev pub node_line : (folds : Bool) → (nodes : List Node) → Node → List ℕ
node_line folds nodes node = codes "  " ++ node_name node ++ codes " [" ++ node_look folds nodes node ++ codes "];\n"

-- the line of an arrow
abbrev pub arrow_line : (from to : Node) → (style : List ℕ) → List ℕ
arrow_line from to style = codes "  " ++ node_name from ++ codes " -> " ++ node_name to ++ style ++ codes ";\n"

-- the arrows from an edge to the given ends
abbrev pub arrows_to : GraphEdge → List End → List ℕ
arrows_to edge ends = flat_map (λ end. arrow_line (of_edge edge) end.node end.style) ends

-- the arrows to an edge from the given ends
abbrev pub arrows_from : GraphEdge → List End → List ℕ
arrows_from edge ends = flat_map (λ end. arrow_line end.node (of_edge edge) end.style) ends

-- all arrows of an edge
abbrev pub edge_arrows : List EdgeDiscovery → (folds : Bool) → (nodes : List Node) → GraphEdge → List ℕ
edge_arrows discoveries folds nodes edge =
    arrows_to edge (drawn_ends nodes [] (ends_after folds edge))
    ++ arrows_from edge (drawn_ends nodes [] (ends_before discoveries folds edge))

-- the arrows of a node: those of its edge, if that is among the given ones
abbrev pub node_arrows : List EdgeDiscovery → (folds : Bool) → (nodes : List Node) → (edges : List GraphEdge) → Node → List ℕ
node_arrows discoveries folds nodes edges (of_edge edge) =
    if has_node (map of_edge edges) (of_edge edge) then edge_arrows discoveries folds nodes edge else []
node_arrows discoveries folds nodes edges (of_file file) = []

-- how many of all edges are drawn
abbrev pub count_line : (count all : ℕ) → List ℕ
count_line count all = codes "  label=\"" ++ decimal count ++ codes " of " ++ decimal all ++ codes " edges\";\n"

-- how many of the edges are drawn, unless all are
abbrev pub label : (nodes : List Node) → (edges : List GraphEdge) → List ℕ
label nodes edges =
    let count = length (filter (λ edge. has_node nodes (of_edge edge)) edges) in
    if count == length edges then [] else count_line count (length edges)

-- ---- the whole

-- the nodes, a line each, then all arrows, and the label
abbrev pub drawing_text : List EdgeDiscovery → (folds : Bool) → (nodes : List Node) → (edges : List GraphEdge) → List ℕ
drawing_text discoveries folds nodes edges =
    codes "digraph ninja {\n  rankdir=LR;\n  node [shape=box];\n" ++ flat_map (node_line folds nodes) nodes
    ++ flat_map (node_arrows discoveries folds nodes edges) nodes ++ label nodes edges ++ codes "}\n"

-- The edges of a drawing, in their order: those that the files need, nearest first; with `--affected` those that a change of the
-- files touches, by number.
pub data ListsEdges (known : DiscoveredGraph) (files : List (List ℕ)) : (affected : Bool) → List GraphEdge → Type 0 where
  needed : {edges : List GraphEdge} → ListsNeeded known.graph files edges → ListsEdges known files false edges
  touched : (numbers : List ℕ) → ((edge : ℕ) → Contains numbers edge ↔ IsTouched known files edge) → IsStrictlyIncreasing numbers
      → ListsEdges known files true (edges_in known.graph numbers)

-- the text is the drawing of the given files
pub record IsDrawing (known : DiscoveredGraph) (options : DrawModel) (files : List (List ℕ)) (text : List ℕ) : Type 0 where
  pub edges : List GraphEdge
  pub lists : ListsEdges known files options.affected edges
  pub text_is : text
      ≡ drawing_text known.discoveries.items options.fold (drawn_nodes options (files_in known.graph files) edges) edges
