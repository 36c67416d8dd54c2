use Rattle.std.proofs.Common.{refl}
use Rattle.nj_text.specs.declared.fault.UnitFault.TheVariants as fault
use Rattle.nj_text.specs.Units.{BadByte, BadEscape}
use Rattle.nj_text.proofs.Bridges.{fault_badly, fault_at_end}
use Rattle.nj_text.proofs.unit.bad_unit.Goals as goal

pub returns-in-BadByte : goal.returns-in-BadByte
returns-in-BadByte c = fault_badly c.args.cursor.spot c.args.cursor.rest.now BadByte
    (fault.BadByte c.args.cursor.spot) (c.in-BadByte.ensures.unit c.args.cursor.spot) refl

pub returns-in-BadEscape : goal.returns-in-BadEscape
returns-in-BadEscape c = fault_badly c.args.cursor.spot c.args.cursor.rest.now BadEscape
    (fault.BadEscape c.args.cursor.spot) (c.in-BadEscape.ensures.unit c.args.cursor.spot) refl

pub returns-in-End : goal.returns-in-End
returns-in-End c = fault_at_end c.args.cursor.spot c.args.cursor.rest.now c.in-End.ensures.unit
