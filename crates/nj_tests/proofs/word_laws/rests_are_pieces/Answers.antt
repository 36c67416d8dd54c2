use Rattle.nj_tests.proofs.WordLemmas.{rests-are}
use Rattle.nj_tests.proofs.word_laws.rests_are_pieces.Goals as goal

pub returns : goal.returns
returns c = rests-are
