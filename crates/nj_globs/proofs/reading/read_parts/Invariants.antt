use Rattle.std.proofs.Common.{true, length}
use Rattle.nj_globs.specs.Patterns.{AreParts}
use Rattle.nj_globs.specs.Inside.Fits.{parts_model}
use Rattle.nj_globs.proofs.reading.read_parts.Given as goal

abbrev pub invariant-letters : goal.invariant-letters
invariant-letters l = AreParts true (parts_model l.parts.items) l.letters l.rest l.begins

abbrev pub decreases-letters : goal.decreases-letters
decreases-letters l = length l.rest
