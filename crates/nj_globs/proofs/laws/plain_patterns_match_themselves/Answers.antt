use Rattle.nj_globs.proofs.LawLemmas.{matches_itself}
use Rattle.nj_globs.proofs.laws.plain_patterns_match_themselves.Goals as goal

pub returns : goal.returns
returns c = matches_itself
