use Rattle.std.proofs.Common.{◌≡◌, ◌++◌, List, map, drop}
use Rattle.std.specs.List.{flat_map}
use Rattle.nj_graph.specs.Handles.{GraphEdge}
use Rattle.nj_ask.specs.DrawnNodes.{of_edge}
use Rattle.nj_ask.specs.Drawings.{node_arrows}
use Rattle.nj_ask.specs.Inside.NodeLists.{node_model}
use Rattle.nj_ask.proofs.arrows.push_arrows.Given as goal

abbrev pub invariant-nodes : goal.invariant-nodes
invariant-nodes l =
    let drawing = l.drawing in
    (edges : List GraphEdge) → drawing.listed.now ≡ map of_edge edges
    → l.text.items ++ flat_map (node_arrows drawing.discoveries.now drawing.folds drawing.nodes.now edges)
    (map node_model (drop l.node-index l.node-items))
    ≡ l.fn.text.items ++ flat_map (node_arrows drawing.discoveries.now drawing.folds drawing.nodes.now edges)
    (map node_model l.node-items)
