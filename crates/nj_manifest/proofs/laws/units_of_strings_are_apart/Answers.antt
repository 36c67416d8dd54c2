use Rattle.nj_manifest.proofs.DyndepUnits.{units_are_apart}
use Rattle.nj_manifest.proofs.laws.units_of_strings_are_apart.Goals as goal

pub returns : goal.returns
returns c = units_are_apart
