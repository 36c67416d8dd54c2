use Rattle.nj_test_lists.proofs.LawLemmas.{each_once}
use Rattle.nj_test_lists.proofs.laws.each_value_is_one_test.Goals as goal

pub returns : goal.returns
returns c = each_once
