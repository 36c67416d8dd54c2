use Rattle.nj_keys.proofs.BaseLaws.{tells}
use Rattle.nj_keys.proofs.laws.bases_law.Goals as goal

pub returns : goal.returns
returns c = tells
