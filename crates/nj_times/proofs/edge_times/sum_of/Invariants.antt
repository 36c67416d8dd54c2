use Rattle.std.proofs.Common.{◌≡◌, ◌+◌, ◌≤◌, ◌*◌, ◌^◌, drop, map}
use Rattle.nj_times.specs.Times.{sum_of}
use Rattle.nj_times.proofs.edge_times.sum_of.Given as goal

abbrev pub invariant-edges : goal.invariant-edges
invariant-edges l = record {
  total : l.sum + sum_of l.durations (map (λ edge. edge.0) (drop l.edge-index l.edges))
      ≡ sum_of l.durations (map (λ edge. edge.0) l.edges);
  small : l.sum ≤ l.edge-index * 2 ^ 64;
}
