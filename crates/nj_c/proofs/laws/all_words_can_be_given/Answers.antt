use Rattle.nj_c.proofs.WordLemmas.{given-words}
use Rattle.nj_c.proofs.laws.all_words_can_be_given.Goals as goal

pub returns : goal.returns
returns c = given-words
