use Rattle.nj_manifest.proofs.FormsLacks.{are_lacking}
use Rattle.nj_manifest.proofs.laws.missing_lines_are_lacking.Goals as goal

pub returns : goal.returns
returns c = are_lacking
