use Rattle.nj_test_lists.proofs.LawLemmas.{meson_each_once}
use Rattle.nj_test_lists.proofs.laws.each_meson_value_is_one_test.Goals as goal

pub returns : goal.returns
returns c = meson_each_once
