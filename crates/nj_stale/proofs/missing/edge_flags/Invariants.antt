use Rattle.std.proofs.Common.{map, take}
use Rattle.nj_stale.specs.Inside.MissingHeld.{AreFlags}
use Rattle.nj_stale.proofs.missing.edge_flags.Given as goal

abbrev pub invariant-edges : goal.invariant-edges
invariant-edges l = AreFlags l.count (map (λ edge. edge.0) (take l.edge-index l.edges)) l.flags.items
