use Rattle.std.proofs.Common.{◌≡◌, drop}
use Rattle.nj_edges.specs.Edges.{edge_at}
use Rattle.nj_c.specs.Buffers.{kinds_of}
use Rattle.nj_c.proofs.BufferLemmas.{written_up_to}
use Rattle.nj_c.proofs.bulk.write_kinds.Given as goal

abbrev pub invariant-items : goal.invariant-items
invariant-items l = l.kinds ≡ written_up_to l.at (drop l.from (kinds_of (edge_at l.graph.edges l.edge.0)))
    l.fn.kinds
