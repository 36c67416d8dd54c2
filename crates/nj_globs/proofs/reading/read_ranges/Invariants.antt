use Rattle.std.proofs.Common.{length}
use Rattle.nj_globs.specs.Inside.Readings.{AreRangesSoFar}
use Rattle.nj_globs.proofs.reading.read_ranges.Given as goal

abbrev pub invariant-letters : goal.invariant-letters
invariant-letters l = AreRangesSoFar l.letters l.rest l.ranges.items

abbrev pub decreases-letters : goal.decreases-letters
decreases-letters l = length l.rest
