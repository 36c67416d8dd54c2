use Rattle.nj_audit.proofs.QuotedWords.{quoted-paths-are-words}
use Rattle.nj_audit.proofs.laws.words_law.Goals as goal

pub returns : goal.returns
returns c = quoted-paths-are-words
