use Rattle.std.proofs.Common.{◌≡◌, length, map}
use Rattle.std.specs.List.{range_with_len}
use Rattle.nj_edges.specs.Edges.{edge_at}
use Rattle.nj_ask.proofs.graph_reading.implicit_counts.Given as goal

abbrev pub invariant-edges : goal.invariant-edges
invariant-edges l =
    l.counts.items ≡ map (λ edge. length (edge_at l.graph.edges edge).implicit_inputs)
    (range_with_len 0 l.number)
