use Rattle.nj_tools.proofs.LawLemmas.{lines-rise, listed-have_lines}
use Rattle.nj_tools.proofs.laws.list_law.Goals as goal

pub returns-clause-rise : goal.returns-clause-rise
returns-clause-rise c = lines-rise

pub returns-clause-listed : goal.returns-clause-listed
returns-clause-listed c = listed-have_lines
