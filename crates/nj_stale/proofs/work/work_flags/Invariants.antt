use Rattle.nj_stale.specs.Inside.WorkHeld.{AreFlagged}
use Rattle.nj_stale.proofs.work.work_flags.Given as goal

abbrev pub invariant-turns : goal.invariant-turns
invariant-turns l = AreFlagged l.graph.edges l.reasons l.order.items l.turn l.flags.items
