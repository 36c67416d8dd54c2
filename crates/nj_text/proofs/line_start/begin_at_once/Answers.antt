use Rattle.std.proofs.Common.{refl, sym, ap, ◌∙◌, take, drop}
use Rattle.nj_text.specs.declared.line_start.LineStart.TheVariants as start
use Rattle.nj_text.specs.Units.{Ordinary, Escape, Reference, OpeningJoin, BadByte, BadEscape}
use Rattle.nj_text.specs.Lines.{before_first_line}
use Rattle.nj_text.specs.Inside.Scans.{units_within, advance, on_next_line}
use Rattle.nj_text.specs.Calls.{Between}
use Rattle.nj_text.specs.Inside.States.{reply, inside}
use Rattle.nj_text.proofs.LineStarts.{at_once_end, at_once_line_end, at_once_join, at_once_tab, at_once_plain}
use Rattle.nj_text.proofs.LineStarts.{at_once_badly, not_nine, lines_moved, within_moved, plain_ordinary}
use Rattle.nj_text.proofs.line_start.begin_at_once.Goals as goal

pub returns-in-End : goal.returns-in-End
returns-in-End c = at_once_end c.args.cursor.spot c.args.cursor.rest.now c.in-End.ensures.unit

pub returns-in-LineEnd : goal.returns-in-LineEnd
returns-in-LineEnd c =
    let spot = c.args.cursor.spot in
    let bytes = c.args.cursor.rest.now in
    let n = c.in-LineEnd.length in
    let after = c.on_next_line-after in
    at_once_line_end spot (on_next_line 0 spot) bytes n c.requires.no_comment c.requires.no_space
    (c.in-LineEnd.ensures.unit spot)
    ∙ ap (λ ls. reply start.Blank (Between ls))
    (sym (lines_moved (on_next_line 0 spot) after.result.spot bytes after.result.rest.now n after.ensures.spot
    after.ensures.rest))

pub returns-in-Join : goal.returns-in-Join
returns-in-Join c =
    let spot = c.args.cursor.spot in
    let bytes = c.args.cursor.rest.now in
    let n = c.in-Join.length in
    let k = c.in-Join.spaces in
    let after = c.on_next_line-after-in-Join in
    at_once_join spot (on_next_line k spot) bytes n c.requires.no_comment c.requires.no_space
    (c.in-Join.ensures.unit spot)
    ∙ ap (λ ls. reply start.Plain (inside (before_first_line
    (record { spot = spot; bytes = take n bytes; means = OpeningJoin }) ls)))
    (sym (within_moved (on_next_line k spot) after.result.spot bytes after.result.rest.now n k
    after.ensures.spot after.ensures.rest c.in-Join.ensures.joined))

pub returns-then-byte-eq9 : goal.returns-then-byte-eq9
returns-then-byte-eq9 c = at_once_tab c.args.cursor.spot c.in-Ordinary.byte c.args.cursor.rest.now
    c.requires.no_comment c.in-Ordinary.ensures.unit.1 c.if-byte-eq9.true

pub returns-else-byte-eq9 : goal.returns-else-byte-eq9
returns-else-byte-eq9 c =
    let spot = c.args.cursor.spot in
    let bytes = c.args.cursor.rest.now in
    let b = c.in-Ordinary.byte in
    at_once_plain spot bytes (Ordinary b) 1 (units_within (advance 1 spot) (drop 1 bytes))
    c.requires.no_comment c.requires.no_space (not_nine b c.if-byte-eq9.false) refl
    (plain_ordinary b bytes c.in-Ordinary.ensures.unit.1 c.requires.no_space)
    (c.in-Ordinary.ensures.unit.2 spot)

pub returns-in-Escape : goal.returns-in-Escape
returns-in-Escape c =
    let spot = c.args.cursor.spot in
    let bytes = c.args.cursor.rest.now in
    let unit = c.in-Escape.ensures.unit in
    at_once_plain spot bytes (Escape unit.0) 2 (units_within (advance 2 spot) (drop 2 bytes))
    c.requires.no_comment c.requires.no_space (λ e. absurd cc) refl refl (unit.2 spot)

pub returns-in-Reference : goal.returns-in-Reference
returns-in-Reference c =
    let spot = c.args.cursor.spot in
    let bytes = c.args.cursor.rest.now in
    let n = c.in-Reference.field-1 in
    at_once_plain spot bytes (Reference c.in-Reference.field-0.now) n
    (units_within (advance n spot) (drop n bytes)) c.requires.no_comment c.requires.no_space
    (λ e. absurd cc) refl refl (c.in-Reference.ensures.unit spot)

pub returns-in-BadByte : goal.returns-in-BadByte
returns-in-BadByte c = at_once_badly c.args.cursor.spot c.args.cursor.rest.now BadByte c.requires.no_comment
    c.requires.no_space (λ e. absurd cc) refl refl (c.in-BadByte.ensures.unit c.args.cursor.spot)

pub returns-in-BadEscape : goal.returns-in-BadEscape
returns-in-BadEscape c = at_once_badly c.args.cursor.spot c.args.cursor.rest.now BadEscape
    c.requires.no_comment c.requires.no_space (λ e. absurd cc) refl refl
    (c.in-BadEscape.ensures.unit c.args.cursor.spot)
