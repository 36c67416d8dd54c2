use Rattle.std.proofs.Common.{◌≡◌, ◌++◌, map, drop}
use Rattle.std.specs.List.{flat_map}
use Rattle.nj_ask.specs.Drawings.{node_line}
use Rattle.nj_ask.specs.Inside.NodeLists.{node_model}
use Rattle.nj_ask.proofs.drawing.push_nodes.Given as goal

abbrev pub invariant-nodes : goal.invariant-nodes
invariant-nodes l =
    l.text.items
    ++ flat_map (node_line l.folds l.nodes) (map node_model (drop l.node-index l.node-items))
    ≡ l.fn.text.items ++ flat_map (node_line l.folds l.nodes) (map node_model l.node-items)
