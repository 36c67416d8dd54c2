use Rattle.std.proofs.Common.{◌≡◌, length}
use Rattle.nj_chosen.specs.TestPaths.{has_lost_bytes}
use Rattle.nj_chosen.proofs.test_names.has_lost_bytes.Given as goal

abbrev pub invariant-bytes : goal.invariant-bytes
invariant-bytes l = has_lost_bytes l.left ≡ has_lost_bytes l.text

abbrev pub decreases-bytes : goal.decreases-bytes
decreases-bytes l = length l.left
