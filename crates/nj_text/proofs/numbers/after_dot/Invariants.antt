use Rattle.std.proofs.Common.{◌≡◌, length}
use Rattle.nj_text.proofs.Digits.{after_dot}
use Rattle.nj_text.proofs.numbers.after_dot.Given as goal

abbrev pub invariant-bytes : goal.invariant-bytes
invariant-bytes l = after_dot l.rest ≡ after_dot l.text

abbrev pub decreases-bytes : goal.decreases-bytes
decreases-bytes l = length l.rest
