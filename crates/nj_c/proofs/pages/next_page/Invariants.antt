use Rattle.std.proofs.Common.{Some, length}
use Rattle.nj_needs.specs.PageWalks.{HasSoFar}
use Rattle.nj_c.specs.Inside.PagesHeld.{numbers_of}
use Rattle.nj_c.proofs.pages.next_page.Given as goal

abbrev pub invariant-edges : goal.invariant-edges
invariant-edges l = HasSoFar l.fn.needs (Some l.fn.take) (numbers_of l.edges.items) l.needs l.room

abbrev pub decreases-edges : goal.decreases-edges
decreases-edges l = length l.needs.left
