use Rattle.nj_times.specs.Inside.CostsHeld.{AreCosted}
use Rattle.nj_times.proofs.costs.costs_of.Given as goal

abbrev pub invariant-turns : goal.invariant-turns
invariant-turns l = AreCosted l.graph.edges l.durations l.order l.turn l.costs.items
