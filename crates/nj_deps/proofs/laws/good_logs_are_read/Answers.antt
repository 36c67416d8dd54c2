use Rattle.nj_deps.proofs.LawLemmas.{read_unless_no_memory}
use Rattle.nj_deps.proofs.laws.good_logs_are_read.Goals as goal

pub returns : goal.returns
returns c = read_unless_no_memory
