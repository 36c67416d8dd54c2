use Rattle.nj_manifest.proofs.DyndepLeftmostEntries.{entries_leftmost}
use Rattle.nj_manifest.proofs.laws.dyndep_faults_are_leftmost.Goals as goal

pub returns : goal.returns
returns c = entries_leftmost
