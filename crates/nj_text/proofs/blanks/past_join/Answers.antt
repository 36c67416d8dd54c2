use Rattle.std.proofs.Common.{refl}
use Rattle.nj_text.specs.Units.{BadByte, BadEscape}
use Rattle.nj_text.proofs.Passed.{blanks_stop_at_end, blanks_stop_badly}
use Rattle.nj_text.proofs.blanks.past_join.Goals as goal

pub returns-in-End-clause-blanks : goal.returns-in-End-clause-blanks
returns-in-End-clause-blanks c = λ h. blanks_stop_at_end c.args.cursor.spot c.args.cursor.rest.now
    c.in-End.ensures.unit

pub returns-in-BadByte-clause-blanks : goal.returns-in-BadByte-clause-blanks
returns-in-BadByte-clause-blanks c = λ h. blanks_stop_badly c.args.cursor.spot c.args.cursor.rest.now BadByte
    (c.in-BadByte.ensures.unit c.args.cursor.spot) refl

pub returns-in-BadEscape-clause-blanks : goal.returns-in-BadEscape-clause-blanks
returns-in-BadEscape-clause-blanks c = λ h. blanks_stop_badly c.args.cursor.spot c.args.cursor.rest.now
    BadEscape (c.in-BadEscape.ensures.unit c.args.cursor.spot) refl
