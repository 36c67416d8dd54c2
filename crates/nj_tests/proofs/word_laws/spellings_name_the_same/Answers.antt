use Rattle.nj_tests.proofs.PathLemmas.{spellings}
use Rattle.nj_tests.proofs.word_laws.spellings_name_the_same.Goals as goal

pub returns : goal.returns
returns c = spellings
