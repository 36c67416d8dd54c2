use Rattle.nj_test_lists.proofs.LawLemmas.{read_unless_no_memory}
use Rattle.nj_test_lists.proofs.laws.good_lists_are_read.Goals as goal

pub returns : goal.returns
returns c = read_unless_no_memory
