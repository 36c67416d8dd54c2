use Rattle.std.proofs.Common.{map, option_map, take}
use Rattle.nj_times.specs.Inside.CostsHeld.{IsLast}
use Rattle.nj_times.proofs.path.costliest_of.Given as goal

abbrev pub invariant-edges : goal.invariant-edges
invariant-edges l = IsLast l.durations l.costs (map (λ edge. edge.0) (take l.edge-index l.edges))
    (option_map (λ edge. edge.0) l.costliest)
