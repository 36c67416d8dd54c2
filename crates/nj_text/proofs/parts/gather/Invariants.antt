use Rattle.std.proofs.Common.{◌≡◌, ◌++◌, length, map}
use Rattle.nj_text.specs.Inside.Gathering.{gathered, after_text, units_at}
use Rattle.nj_text.specs.Words.{part_model}
use Rattle.nj_text.proofs.parts.gather.Given as goal

abbrev pub invariant-text : goal.invariant-text
invariant-text l =
    (map part_model l.parts.items ++ gathered l.kind (units_at l.cursor)
    ≡ gathered l.kind (units_at l.fn.start))
    × (after_text l.kind (units_at l.cursor) ≡ after_text l.kind (units_at l.fn.start))

abbrev pub decreases-text : goal.decreases-text
decreases-text l = length l.cursor.rest.now
