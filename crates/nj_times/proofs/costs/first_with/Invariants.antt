use Rattle.std.proofs.Common.{◌≡◌, drop}
use Rattle.nj_edges.specs.Needs.{makers_of_inputs}
use Rattle.nj_times.specs.Inside.CostsHeld.{first_with}
use Rattle.nj_times.proofs.costs.first_with.Given as goal

abbrev pub invariant-inputs : goal.invariant-inputs
invariant-inputs l = first_with l.costs l.wanted (drop l.index (makers_of_inputs l.graph.edges l.edge.0))
    ≡ first_with l.costs l.wanted (makers_of_inputs l.graph.edges l.edge.0)
