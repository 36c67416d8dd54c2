use Rattle.nj_tests.proofs.PathLemmas.{absolutes}
use Rattle.nj_tests.proofs.word_laws.absolute_paths_name_the_same.Goals as goal

pub returns : goal.returns
returns c = absolutes
