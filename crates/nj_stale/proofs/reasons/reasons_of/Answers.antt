use Rattle.nj_stale.proofs.reasons.reasons_of.Goals as goal

pub returns : goal.returns
returns c = c.in_ok-found.ensures.reasons_are
