use Rattle.nj_text.proofs.UnitLaws.{come_in_place}
use Rattle.nj_text.proofs.laws.units_come_in_place.Goals as goal

pub returns : goal.returns
returns c = come_in_place
