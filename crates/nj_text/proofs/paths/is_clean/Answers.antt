use Rattle.nj_text.proofs.CleanPaths.{clean-iff}
use Rattle.nj_text.proofs.paths.is_clean.Goals as goal

pub returns : goal.returns
returns c = clean-iff c.args.path.now c.stays_clean.result c.stays_clean.ensures
