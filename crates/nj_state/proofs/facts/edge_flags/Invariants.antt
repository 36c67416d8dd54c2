use Rattle.std.proofs.Common.{map, take}
use Rattle.nj_state.specs.Inside.Flags.{AreFlags}
use Rattle.nj_state.proofs.facts.edge_flags.Given as goal

abbrev pub invariant-edges : goal.invariant-edges
invariant-edges l = AreFlags l.count (map (λ edge. edge.0) (take l.edge-index l.edges)) l.flags.items
