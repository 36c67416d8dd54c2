use Rattle.std.proofs.Common.{sym, ap, ◌∙◌}
use Rattle.std.proofs.lemmas.Bool.{ne_eqb}
use Rattle.nj_text.specs.Inside.Scans.{is_first}
use Rattle.nj_text.proofs.NextUnits.{line_end_unit, bad_byte_unit, ordinary_unit, eqb_self}
use Rattle.nj_text.proofs.unit.next_unit.Goals as goal

pub returns-then-is_ordinary_byte-clause-unit : goal.returns-then-is_ordinary_byte-clause-unit
returns-then-is_ordinary_byte-clause-unit c =
    let byte = c.in-Some.byte in
    let remainder = c.in-Some.remainder.now in
    let first = c.in-Some.ensures in
    let ordinary = sym c.is_ordinary_byte.ensures ∙ c.if-is_ordinary_byte.true in
    (ordinary, ap (is_first byte) first ∙ eqb_self byte, rw first (ordinary_unit byte remainder ordinary))

pub returns-then-end-eq0-clause-unit : goal.returns-then-end-eq0-clause-unit
returns-then-end-eq0-clause-unit c =
    let byte = c.in-Some.byte in
    let remainder = c.in-Some.remainder.now in
    let first = c.in-Some.ensures in
    rw first (bad_byte_unit byte remainder (sym c.is_ordinary_byte.ensures ∙ c.if-is_ordinary_byte.false)
    (ne_eqb byte 36 c.if-byte-eq36.false)
    (rw first at (sym c.line_end_length-end.ensures.length ∙ c.if-end-eq0.true)))

pub returns-clause-unit : goal.returns-clause-unit
returns-clause-unit c = line_end_unit c.args.bytes.now c.line_end_length-end.result
    c.line_end_length-end.ensures.length (ne_eqb c.line_end_length-end.result 0 c.if-end-eq0.false)
