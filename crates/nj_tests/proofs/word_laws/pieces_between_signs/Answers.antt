use Rattle.nj_tests.proofs.WordLemmas.{between-signs}
use Rattle.nj_tests.proofs.word_laws.pieces_between_signs.Goals as goal

pub returns : goal.returns
returns c = between-signs
