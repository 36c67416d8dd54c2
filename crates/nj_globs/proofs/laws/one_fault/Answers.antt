use Rattle.nj_globs.proofs.LawLemmas.{once}
use Rattle.nj_globs.proofs.laws.one_fault.Goals as goal

pub returns : goal.returns
returns c = once
