use Rattle.std.proofs.Common.{◌≡◌, map, take}
use Rattle.nj_ask.specs.Inside.NodeLists.{node_model}
use Rattle.nj_ask.proofs.mentions.first_nodes.Given as goal

abbrev pub invariant-nodes : goal.invariant-nodes
invariant-nodes l = l.first ≡ map node_model (take l.node-index l.node-items)
