use Rattle.nj_changes.proofs.LawLemmas.{lines_are_read, spellings_are_one, zeros_are_read}
use Rattle.nj_changes.proofs.laws.changes_law.Goals as goal

pub returns-clause-zeros : goal.returns-clause-zeros
returns-clause-zeros c = zeros_are_read

pub returns-clause-lines : goal.returns-clause-lines
returns-clause-lines c = lines_are_read

pub returns-clause-spellings : goal.returns-clause-spellings
returns-clause-spellings c = spellings_are_one
