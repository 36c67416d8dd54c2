use Rattle.std.proofs.Common.{take}
use Rattle.std.specs.Prelude.{Contains}
use Rattle.nj_edges.specs.Inside.ChangesHeld.{FindsMore}
use Rattle.nj_edges.specs.Inside.UsersHeld.{numbers_of}
use Rattle.nj_edges.proofs.affected.add_all.Given as goal

abbrev pub invariant-edges : goal.invariant-edges
invariant-edges l = FindsMore (Contains (numbers_of (take l.edge-index l.edges))) l.fn.found l.found
