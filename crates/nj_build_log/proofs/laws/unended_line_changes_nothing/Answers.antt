use Rattle.nj_build_log.proofs.LawLemmas.{unended_changes_nothing}
use Rattle.nj_build_log.proofs.laws.unended_line_changes_nothing.Goals as goal

pub returns : goal.returns
returns c = unended_changes_nothing
