use Rattle.nj_needs.proofs.NeedsLemmas.{IsSameWalk-from}
use Rattle.nj_needs.proofs.needs.Needs.next.Goals as goal

pub returns-clause-same : goal.returns-clause-same
returns-clause-same c =
    let e = c.next_edge.ensures in
    rw (← c.self.view_is) (IsSameWalk-from c.self.inside.walk c.next_edge.new.walk c.self.inside.saved
    c.next_edge.new.saved e.graph e.targets e.begun e.turns e.after)
