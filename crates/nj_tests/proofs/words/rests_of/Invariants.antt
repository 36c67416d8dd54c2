use Rattle.std.proofs.Common.{◌≡◌, ◌++◌, map, length}
use Rattle.nj_tests.specs.Words.{rests_of}
use Rattle.nj_tests.proofs.words.rests_of.Given as goal

abbrev pub invariant-bytes : goal.invariant-bytes
invariant-bytes l = map (λ rest. rest.now) l.rests.items ++ rests_of l.left ≡ rests_of l.word

abbrev pub decreases-bytes : goal.decreases-bytes
decreases-bytes l = length l.left
