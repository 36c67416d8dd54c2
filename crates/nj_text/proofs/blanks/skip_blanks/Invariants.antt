use Rattle.std.proofs.Common.{◌≡◌, length}
use Rattle.nj_text.specs.Bytes.{drop_while}
use Rattle.nj_text.specs.Inside.Scans.{units_within}
use Rattle.nj_text.specs.Words.{is_blank}
use Rattle.nj_text.proofs.blanks.skip_blanks.Given as goal

abbrev pub invariant-blanks : goal.invariant-blanks
invariant-blanks l =
    drop_while is_blank (units_within l.cursor.spot l.cursor.rest.now)
    ≡ drop_while is_blank (units_within l.fn.start.spot l.fn.start.rest.now)

abbrev pub decreases-blanks : goal.decreases-blanks
decreases-blanks l = length l.cursor.rest.now
