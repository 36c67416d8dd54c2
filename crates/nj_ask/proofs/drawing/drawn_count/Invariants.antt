use Rattle.std.proofs.Common.{◌≡◌, ◌+◌, length}
use Rattle.std.specs.List.{filter}
use Rattle.nj_ask.specs.DrawnNodes.{has_node, of_edge}
use Rattle.nj_ask.proofs.drawing.drawn_count.Given as goal

abbrev pub invariant-edges : goal.invariant-edges
invariant-edges l =
    l.count + length (filter (λ edge. has_node l.nodes (of_edge edge)) l.edge-iterator)
    ≡ length (filter (λ edge. has_node l.nodes (of_edge edge)) l.fn.edges)
