use Rattle.nj_text.proofs.UnitLaws.{are_the_units}
use Rattle.nj_text.proofs.laws.lines_are_the_units.Goals as goal

pub returns : goal.returns
returns c = are_the_units
