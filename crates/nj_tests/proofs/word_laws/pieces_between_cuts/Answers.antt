use Rattle.nj_tests.proofs.WordLemmas.{between-cuts}
use Rattle.nj_tests.proofs.word_laws.pieces_between_cuts.Goals as goal

pub returns : goal.returns
returns c = between-cuts
