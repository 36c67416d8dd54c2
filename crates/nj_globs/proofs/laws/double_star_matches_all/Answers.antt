use Rattle.nj_globs.proofs.LawLemmas.{matches_all}
use Rattle.nj_globs.proofs.laws.double_star_matches_all.Goals as goal

pub returns : goal.returns
returns c = matches_all
