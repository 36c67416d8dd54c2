use Rattle.nj_cycles.specs.Inside.Users.{HaveUsers, NeedsSoFar}
use Rattle.nj_cycles.proofs.reversed.users_of_edges.Given as goal

abbrev pub invariant-edges : goal.invariant-edges
invariant-edges g l = HaveUsers (g.I.EdgeInputs.count l.inputs)
    (NeedsSoFar (g.I.EdgeInputs.makers l.inputs) l.edge 0) l.users.items
