use Rattle.nj_build_log.proofs.LawLemmas.{few_tabs_nothing}
use Rattle.nj_build_log.proofs.laws.few_tabs_change_nothing.Goals as goal

pub returns : goal.returns
returns c = few_tabs_nothing
