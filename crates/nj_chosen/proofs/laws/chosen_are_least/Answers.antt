use Rattle.nj_chosen.proofs.LawLemmas.{chosen-are-least}
use Rattle.nj_chosen.proofs.laws.chosen_are_least.Goals as goal

pub returns : goal.returns
returns c = chosen-are-least
