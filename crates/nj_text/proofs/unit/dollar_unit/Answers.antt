use Rattle.nj_text.proofs.NextUnits.{join_unit, escape_unit, reference_unit, bad_escape_unit}
use Rattle.nj_text.proofs.unit.dollar_unit.Goals as goal

pub returns-in-Join-clause-unit : goal.returns-in-Join-clause-unit
returns-in-Join-clause-unit c =
    let at_end = c.in-Join.ensures in
    join_unit c.in-Join.end c.in-Join.spaces c.args.bytes.now c.in-Join.ensures.found c.in-Join.ensures.lands
    c.in-Join.ensures.within

pub returns-in-Escape-clause-unit : goal.returns-in-Escape-clause-unit
returns-in-Escape-clause-unit c = (
  c.in-Escape.field-0,
  c.in-Escape.ensures.lands.0,
  escape_unit c.in-Escape.field-0 c.args.bytes.now c.in-Escape.ensures.found c.in-Escape.ensures.lands.1
      c.in-Escape.ensures.within,
)

pub returns-in-Reference-clause-unit : goal.returns-in-Reference-clause-unit
returns-in-Reference-clause-unit c =
    reference_unit c.in-Reference.name.now c.in-Reference.length c.args.bytes.now c.in-Reference.ensures.found
    c.in-Reference.ensures.lands c.in-Reference.ensures.within

pub returns-in-Bad-clause-unit : goal.returns-in-Bad-clause-unit
returns-in-Bad-clause-unit c = bad_escape_unit c.args.bytes.now c.in-Bad.ensures.found
