use Rattle.nj_deps.proofs.LawLemmas.{last_counts}
use Rattle.nj_deps.proofs.laws.last_record_counts.Goals as goal

pub returns : goal.returns
returns c = last_counts
