use Rattle.nj_c.proofs.RunLemmas.{never-fails}
use Rattle.nj_c.proofs.laws.outputs_never_fail.Goals as goal

pub returns : goal.returns
returns c = never-fails
