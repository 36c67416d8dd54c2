use Rattle.std.proofs.Common.{◌≡◌, take}
use Rattle.nj_times.specs.Times.{durations_of}
use Rattle.nj_times.proofs.edge_times.durations.Given as goal

abbrev pub invariant-edges : goal.invariant-edges
invariant-edges l = l.durations.items ≡ durations_of l.log.lines (take l.number l.graph.edges)
