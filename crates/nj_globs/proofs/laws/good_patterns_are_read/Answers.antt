use Rattle.nj_globs.proofs.LawLemmas.{read_unless_no_memory}
use Rattle.nj_globs.proofs.laws.good_patterns_are_read.Goals as goal

pub returns : goal.returns
returns c = read_unless_no_memory
