use Rattle.std.proofs.Common.{◌≡◌, drop}
use Rattle.std.specs.List.{list_any}
use Rattle.nj_edges.specs.Needs.{makers_of_inputs}
use Rattle.nj_stale.specs.Inside.WorkHeld.{has_flag, has_flagged_maker}
use Rattle.nj_stale.proofs.work.has_flagged_maker.Given as goal

abbrev pub invariant-inputs : goal.invariant-inputs
invariant-inputs l =
    list_any (has_flag l.flags) (drop l.index (makers_of_inputs l.graph.edges l.edge.0))
    ≡ has_flagged_maker l.graph.edges l.flags l.edge.0
