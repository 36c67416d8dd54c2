use Rattle.std.proofs.Common.{◌≡◌, map, take}
use Rattle.nj_c.specs.DiscoveredInputs.{is_unknown}
use Rattle.nj_c.proofs.discovered_inputs.unknown_edges.Given as goal

abbrev pub invariant-edges : goal.invariant-edges
invariant-edges l = l.flags.items ≡ map (λ edge. is_unknown edge.verdict) (take l.edge l.found.edges)
