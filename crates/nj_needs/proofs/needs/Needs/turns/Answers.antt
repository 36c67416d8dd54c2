use Rattle.nj_needs.proofs.NeedsLemmas.{IsSound-from}
use Rattle.nj_needs.proofs.needs.Needs.turns.Goals as goal

pub returns-clause-sound : goal.returns-clause-sound
returns-clause-sound c = rw (← c.self.view_is)
    (IsSound-from c.self.inside.walk c.self.inside.saved c.self.invariant)
