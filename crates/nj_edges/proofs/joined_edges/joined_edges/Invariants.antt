use Rattle.std.proofs.Common.{◌≡◌}
use Rattle.nj_edges.specs.Inside.JoiningHeld.{joined_up_to}
use Rattle.nj_edges.proofs.joined_edges.joined_edges.Given as goal

abbrev pub invariant-rows : goal.invariant-rows
invariant-rows l = l.joined ≡ joined_up_to l.fn.edges l.added l.edge
