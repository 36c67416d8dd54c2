use Rattle.nj_ask.proofs.LedLaws.{walk-finds}
use Rattle.nj_ask.proofs.looked_through.looked_through_law.Goals as goal

pub returns : goal.returns
returns c = walk-finds
