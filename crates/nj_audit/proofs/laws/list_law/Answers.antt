use Rattle.nj_audit.proofs.JoinedParts.{listed-texts-are-names}
use Rattle.nj_audit.proofs.laws.list_law.Goals as goal

pub returns : goal.returns
returns c = listed-texts-are-names
