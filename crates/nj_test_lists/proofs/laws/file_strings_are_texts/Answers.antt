use Rattle.nj_test_lists.proofs.LawLemmas.{texts_have}
use Rattle.nj_test_lists.proofs.laws.file_strings_are_texts.Goals as goal

pub returns : goal.returns
returns c = texts_have
