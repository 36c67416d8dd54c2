use Rattle.std.proofs.Common.{◌≡◌, ◌++◌, map}
use Rattle.nj_ask.specs.DrawnNodes.{of_edge}
use Rattle.nj_ask.proofs.mentions.edge_nodes.Given as goal

abbrev pub invariant-edges : goal.invariant-edges
invariant-edges l = l.nodes ++ map of_edge l.edge-iterator ≡ map of_edge l.fn.edges
