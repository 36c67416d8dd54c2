use Rattle.nj_test_lists.proofs.LawLemmas.{meson_texts_have}
use Rattle.nj_test_lists.proofs.laws.files_of_targets_are_texts.Goals as goal

pub returns : goal.returns
returns c = meson_texts_have
