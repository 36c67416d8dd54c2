use Rattle.nj_text.proofs.CleanPaths.{clean-twice}
use Rattle.nj_text.proofs.path_laws.cleaning_is_idempotent.Goals as goal

pub returns : goal.returns
returns c = clean-twice
