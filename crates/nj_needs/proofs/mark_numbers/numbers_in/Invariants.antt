use Rattle.std.proofs.Common.{length}
use denote.Shadow.{shadow}
use denote.Text.{Utf8}
use Rattle.nj_needs.proofs.MarkTextLemmas.{AreReadSoFar}
use Rattle.nj_needs.proofs.mark_numbers.numbers_in.Given as goal

abbrev pub invariant-parts : goal.invariant-parts
invariant-parts l = AreReadSoFar l.text l.numbers.items l.rest × shadow (Utf8 l.rest)

abbrev pub decreases-parts : goal.decreases-parts
decreases-parts l = length l.rest
