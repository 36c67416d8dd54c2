use Rattle.nj_text.proofs.UnitLaws.{are_the_text}
use Rattle.nj_text.proofs.laws.units_are_the_text.Goals as goal

pub returns : goal.returns
returns c = are_the_text
