use Rattle.std.proofs.Common.{◌≡◌, drop, max}
use Rattle.nj_edges.specs.Needs.{makers_of_inputs}
use Rattle.nj_times.specs.Inside.CostsHeld.{greatest}
use Rattle.nj_times.proofs.costs.greatest_before.Given as goal

abbrev pub invariant-inputs : goal.invariant-inputs
invariant-inputs l = max l.greatest (greatest l.costs
    (drop l.index (makers_of_inputs l.graph.edges l.edge.0)))
    ≡ greatest l.costs (makers_of_inputs l.graph.edges l.edge.0)
