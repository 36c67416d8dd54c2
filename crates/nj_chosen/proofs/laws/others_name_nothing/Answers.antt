use Rattle.nj_chosen.proofs.LawLemmas.{others-name-nothing}
use Rattle.nj_chosen.proofs.laws.others_name_nothing.Goals as goal

pub returns : goal.returns
returns c = others-name-nothing
