use Rattle.std.proofs.Common.{refl}
use Rattle.nj_text.specs.Units.{BadByte, BadEscape}
use Rattle.nj_text.proofs.Steps.{begins_badly, begins_at_end}
use Rattle.nj_text.proofs.parts.begins_word.Goals as goal

pub returns-in-BadByte : goal.returns-in-BadByte
returns-in-BadByte c = begins_badly c.args.cursor.spot c.args.cursor.rest.now BadByte
    (c.in-BadByte.ensures.unit c.args.cursor.spot) refl

pub returns-in-BadEscape : goal.returns-in-BadEscape
returns-in-BadEscape c = begins_badly c.args.cursor.spot c.args.cursor.rest.now BadEscape
    (c.in-BadEscape.ensures.unit c.args.cursor.spot) refl

pub returns-in-End : goal.returns-in-End
returns-in-End c = begins_at_end c.args.cursor.spot c.args.cursor.rest.now c.in-End.ensures.unit
