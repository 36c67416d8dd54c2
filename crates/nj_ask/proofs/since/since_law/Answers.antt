use Rattle.nj_ask.proofs.SinceLaws.{other-commands}
use Rattle.nj_ask.proofs.since.since_law.Goals as goal

pub returns : goal.returns
returns c = other-commands
