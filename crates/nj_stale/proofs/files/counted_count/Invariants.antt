use Rattle.std.proofs.Common.{◌≤◌, length}
use Rattle.nj_edges.specs.Edges.{edge_at, counted_inputs_of}
use Rattle.nj_stale.proofs.files.counted_count.Given as goal

abbrev pub invariant-inputs : goal.invariant-inputs
invariant-inputs l = l.index ≤ length (counted_inputs_of (edge_at l.graph.edges l.edge.0))
