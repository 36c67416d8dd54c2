use Rattle.nj_tools.proofs.LawLemmas.{sorted-rise, printed-differ, listed-printed, plain-quotes}
use Rattle.nj_tools.proofs.laws.input_lines_law.Goals as goal

pub returns-clause-rise : goal.returns-clause-rise
returns-clause-rise c = sorted-rise

pub returns-clause-differ : goal.returns-clause-differ
returns-clause-differ c = printed-differ

pub returns-clause-listed : goal.returns-clause-listed
returns-clause-listed c = listed-printed

pub returns-clause-plain : goal.returns-clause-plain
returns-clause-plain c = plain-quotes
