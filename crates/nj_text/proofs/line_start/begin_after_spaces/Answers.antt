use Rattle.std.proofs.Common.{refl, sym, ap, ◌∙◌, drop}
use Rattle.nj_text.specs.declared.line_start.LineStart.TheVariants as start
use Rattle.nj_text.specs.Units.{Ordinary, Escape, Reference, Join, BadByte, BadEscape}
use Rattle.nj_text.specs.Inside.Scans.{units_within, advance, on_next_line}
use Rattle.nj_text.specs.Calls.{Between}
use Rattle.nj_text.specs.Inside.States.{reply}
use Rattle.nj_text.proofs.LineStarts.{after_end, after_line_end, after_tab, after_plain, after_badly}
use Rattle.nj_text.proofs.LineStarts.{not_nine, lines_moved, plain_ordinary}
use Rattle.nj_text.proofs.line_start.begin_after_spaces.Goals as goal

pub returns-in-End : goal.returns-in-End
returns-in-End c = λ spot b bs h. after_end spot b bs c.args.cursor.spot c.args.cursor.rest.now h
    c.in-End.ensures.unit

pub returns-in-LineEnd : goal.returns-in-LineEnd
returns-in-LineEnd c = λ spot b bs h.
    let here = c.args.cursor.spot in
    let bytes = c.args.cursor.rest.now in
    let n = c.in-LineEnd.length in
    let after = c.on_next_line-after in
    after_line_end spot b bs here (on_next_line 0 here) bytes n h c.requires (c.in-LineEnd.ensures.unit here)
    ∙ ap (λ ls. reply start.Blank (Between ls))
    (sym (lines_moved (on_next_line 0 here) after.result.spot bytes after.result.rest.now n after.ensures.spot
    after.ensures.rest))

pub returns-then-byte-eq9 : goal.returns-then-byte-eq9
returns-then-byte-eq9 c = λ spot b bs h. after_tab spot b bs c.args.cursor.spot c.in-Ordinary.byte
    c.args.cursor.rest.now h c.in-Ordinary.ensures.unit.1 c.if-byte-eq9.true

pub returns-else-byte-eq9 : goal.returns-else-byte-eq9
returns-else-byte-eq9 c = λ spot b bs h.
    let here = c.args.cursor.spot in
    let bytes = c.args.cursor.rest.now in
    let byte = c.in-Ordinary.byte in
    after_plain spot b bs here bytes (Ordinary byte) 1 (units_within (advance 1 here) (drop 1 bytes)) h
    c.requires (not_nine byte c.if-byte-eq9.false)
    (plain_ordinary byte bytes c.in-Ordinary.ensures.unit.1 c.requires) (c.in-Ordinary.ensures.unit.2 here)

pub returns-in-Join : goal.returns-in-Join
returns-in-Join c = λ spot b bs h.
    let here = c.args.cursor.spot in
    let bytes = c.args.cursor.rest.now in
    let n = c.in-Join.field-0 in
    let k = c.in-Join.field-1 in
    after_plain spot b bs here bytes Join n (units_within (on_next_line k here) (drop n bytes)) h c.requires
    (λ e. absurd cc) refl (c.in-Join.ensures.unit here)

pub returns-in-Escape : goal.returns-in-Escape
returns-in-Escape c = λ spot b bs h.
    let here = c.args.cursor.spot in
    let bytes = c.args.cursor.rest.now in
    let unit = c.in-Escape.ensures.unit in
    after_plain spot b bs here bytes (Escape unit.0) 2 (units_within (advance 2 here) (drop 2 bytes)) h
    c.requires (λ e. absurd cc) refl (unit.2 here)

pub returns-in-Reference : goal.returns-in-Reference
returns-in-Reference c = λ spot b bs h.
    let here = c.args.cursor.spot in
    let bytes = c.args.cursor.rest.now in
    let n = c.in-Reference.field-1 in
    after_plain spot b bs here bytes (Reference c.in-Reference.field-0.now) n
    (units_within (advance n here) (drop n bytes)) h c.requires (λ e. absurd cc) refl
    (c.in-Reference.ensures.unit here)

pub returns-in-BadByte : goal.returns-in-BadByte
returns-in-BadByte c = λ spot b bs h. after_badly spot b bs c.args.cursor.spot c.args.cursor.rest.now BadByte
    h c.requires (λ e. absurd cc) refl (c.in-BadByte.ensures.unit c.args.cursor.spot)

pub returns-in-BadEscape : goal.returns-in-BadEscape
returns-in-BadEscape c = λ spot b bs h. after_badly spot b bs c.args.cursor.spot c.args.cursor.rest.now
    BadEscape h c.requires (λ e. absurd cc) refl (c.in-BadEscape.ensures.unit c.args.cursor.spot)
