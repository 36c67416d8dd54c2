use Rattle.std.proofs.Common.{map, take}
use Rattle.nj_times.specs.Inside.RulesHeld.{AreTimes}
use Rattle.nj_times.proofs.rule_times.rule_times.Given as goal

abbrev pub invariant-edges : goal.invariant-edges
invariant-edges l = AreTimes (map (λ rule. rule.now) l.rules) l.durations
    (map (λ edge. edge.0) (take l.edge-index l.edges)) l.names l.times.items
