use Rattle.std.proofs.Common.{◌≡◌, length}
use Rattle.nj_build_log.specs.Numbers.{without_blanks}
use Rattle.nj_build_log.proofs.numbers.without_blanks.Given as goal

abbrev pub invariant-blanks : goal.invariant-blanks
invariant-blanks l = without_blanks l.rest ≡ without_blanks l.text

abbrev pub decreases-blanks : goal.decreases-blanks
decreases-blanks l = length l.rest
