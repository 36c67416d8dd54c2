use Rattle.std.proofs.Common.{drop, map}
use Rattle.nj_ask.specs.Inside.NodeLists.{AreFlagsWithin, node_model}
use Rattle.nj_ask.proofs.nodes.unset.Given as goal

abbrev pub invariant-nodes : goal.invariant-nodes
invariant-nodes l =
    AreFlagsWithin (map node_model l.nodes) l.fn.edges l.fn.files
    → AreFlagsWithin (map node_model (drop l.node-index l.nodes)) l.edges l.files
