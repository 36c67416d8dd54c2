use Rattle.nj_chosen.proofs.ProgramLemmas.{own-programs-choose-anyway}
use Rattle.nj_chosen.proofs.laws.own_programs_choose_anyway.Goals as goal

pub returns : goal.returns
returns c = own-programs-choose-anyway
