use Rattle.std.proofs.Common.{◌≡◌, ◌+◌, ◌≤◌, drop, map}
use Rattle.nj_times.specs.Times.{unknown_of}
use Rattle.nj_times.proofs.edge_times.unknown_of.Given as goal

abbrev pub invariant-edges : goal.invariant-edges
invariant-edges l = record {
  total : l.count + unknown_of l.durations (map (λ edge. edge.0) (drop l.edge-index l.edges))
      ≡ unknown_of l.durations (map (λ edge. edge.0) l.edges);
  small : l.count ≤ l.edge-index;
}
