use Rattle.std.proofs.Common.{◌≡◌, drop, map}
use Rattle.nj_c.proofs.BufferLemmas.{written_up_to}
use Rattle.nj_c.proofs.bulk.give_edges.Given as goal

abbrev pub invariant-items : goal.invariant-items
invariant-items l = l.edges ≡ written_up_to l.at (drop l.from (map (λ e. e.0) l.list)) l.fn.edges
