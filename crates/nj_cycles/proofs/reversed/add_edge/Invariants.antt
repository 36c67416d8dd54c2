use Rattle.std.proofs.Common.{◌-◌, length}
use Rattle.nj_cycles.specs.Inside.Users.{HaveUsers, NeedsSoFar}
use Rattle.nj_cycles.proofs.reversed.add_edge.Given as goal

abbrev pub invariant-inputs : goal.invariant-inputs
invariant-inputs g l = HaveUsers (g.I.EdgeInputs.count l.inputs)
    (NeedsSoFar (g.I.EdgeInputs.makers l.inputs) l.edge l.index) l.users.items

abbrev pub decreases-inputs : goal.decreases-inputs
decreases-inputs g l = length (g.I.EdgeInputs.makers l.inputs l.edge) - l.index
