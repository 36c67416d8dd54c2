use Rattle.nj_needs.proofs.PlaceLaws.{first-places_are_one}
use Rattle.nj_needs.proofs.laws.place_law.Goals as goal

pub returns : goal.returns
returns c = first-places_are_one
