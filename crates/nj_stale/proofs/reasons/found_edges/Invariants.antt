use Rattle.std.proofs.Common.{map}
use Rattle.nj_stale.specs.Numbered.{evidence_of}
use Rattle.nj_stale.specs.Inside.Held.{IsFound}
use Rattle.nj_stale.proofs.reasons.found_edges.Given as goal

abbrev pub invariant-turns : goal.invariant-turns
invariant-turns l = IsFound (evidence_of l.graph l.facts l.times l.log.lines) (map (λ edge. edge.0) l.order)
    l.turn
    l.reasons.items l.lent.items
