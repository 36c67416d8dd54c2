use Rattle.nj_globs.proofs.LawLemmas.{written}
use Rattle.nj_globs.proofs.laws.letters_write_the_pattern.Goals as goal

pub returns : goal.returns
returns c = written 0
