use Rattle.nj_edge_env.proofs.GivenLemmas.{meant, one_text, cycle_silent}
use Rattle.nj_edge_env.proofs.laws.late_strings_are_given.Goals as goal

pub returns-clause-meant : goal.returns-clause-meant
returns-clause-meant c = meant

pub returns-clause-one : goal.returns-clause-one
returns-clause-one c = one_text

pub returns-clause-cycle : goal.returns-clause-cycle
returns-clause-cycle c = cycle_silent
