use Rattle.nj_globs.proofs.LawLemmas.{one_way}
use Rattle.nj_globs.proofs.laws.one_reading.Goals as goal

pub returns : goal.returns
returns c = one_way
