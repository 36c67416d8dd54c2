use Rattle.nj_text.proofs.Gathered.{bad_byte_part, bad_escape_part, end_part}
use Rattle.nj_text.proofs.parts.next_part.Goals as goal

pub returns-in-BadByte-clause-part : goal.returns-in-BadByte-clause-part
returns-in-BadByte-clause-part c = bad_byte_part c.args.kind c.args.cursor.spot c.args.cursor.rest.now
    (c.in-BadByte.ensures.unit c.args.cursor.spot)

pub returns-in-BadEscape-clause-part : goal.returns-in-BadEscape-clause-part
returns-in-BadEscape-clause-part c = bad_escape_part c.args.kind c.args.cursor.spot c.args.cursor.rest.now
    (c.in-BadEscape.ensures.unit c.args.cursor.spot)

pub returns-in-End-clause-part : goal.returns-in-End-clause-part
returns-in-End-clause-part c = end_part c.args.kind c.args.cursor.spot c.args.cursor.rest.now
    c.in-End.ensures.unit
