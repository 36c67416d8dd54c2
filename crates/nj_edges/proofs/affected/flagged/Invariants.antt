use Rattle.std.proofs.Common.{◌≡◌, take}
use Rattle.nj_edges.specs.Edges.{edges_from}
use Rattle.nj_edges.specs.Inside.UsersHeld.{numbers_of}
use Rattle.nj_edges.proofs.affected.flagged.Given as goal

abbrev pub invariant-edges : goal.invariant-edges
invariant-edges l = numbers_of l.edges.items ≡ edges_from 0 (λ flag. flag) (take l.number l.flags)
