use Rattle.nj_build_log.proofs.LawLemmas.{last_counts}
use Rattle.nj_build_log.proofs.laws.last_line_counts.Goals as goal

pub returns : goal.returns
returns c = last_counts
