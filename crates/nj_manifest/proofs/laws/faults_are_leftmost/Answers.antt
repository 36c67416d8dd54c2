use Rattle.nj_manifest.proofs.LeftmostStatements.{leftmost}
use Rattle.nj_manifest.proofs.laws.faults_are_leftmost.Goals as goal

pub returns : goal.returns
returns c = leftmost
