use Rattle.nj_tests.proofs.PathLemmas.{way-round}
use Rattle.nj_tests.proofs.word_laws.way_round_names_the_same.Goals as goal

pub returns : goal.returns
returns c = way-round
