use Rattle.std.proofs.Common.{refl}
use Rattle.nj_text.specs.Units.{BadByte, BadEscape}
use Rattle.nj_text.proofs.Bridges.{no_line_end_badly, line_ends_at_end}
use Rattle.nj_text.proofs.sign.past_line_end.Goals as goal

pub returns-in-BadByte : goal.returns-in-BadByte
returns-in-BadByte c = no_line_end_badly c.args.cursor.spot c.args.cursor.rest.now BadByte
    (c.in-BadByte.ensures.unit c.args.cursor.spot) refl

pub returns-in-BadEscape : goal.returns-in-BadEscape
returns-in-BadEscape c = no_line_end_badly c.args.cursor.spot c.args.cursor.rest.now BadEscape
    (c.in-BadEscape.ensures.unit c.args.cursor.spot) refl

pub returns-in-End : goal.returns-in-End
returns-in-End c = line_ends_at_end c.args.cursor.spot c.args.cursor.rest.now c.in-End.ensures.unit
