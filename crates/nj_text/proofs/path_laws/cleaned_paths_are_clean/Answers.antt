use Rattle.nj_text.proofs.CleanPaths.{cleaning-clean}
use Rattle.nj_text.proofs.path_laws.cleaned_paths_are_clean.Goals as goal

pub returns : goal.returns
returns c = cleaning-clean
