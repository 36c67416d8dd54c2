use Rattle.nj_text.proofs.CleanPaths.{clean-path}
use Rattle.nj_text.proofs.path_laws.clean_paths_stay.Goals as goal

pub returns : goal.returns
returns c = clean-path
