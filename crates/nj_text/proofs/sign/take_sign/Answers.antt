use Rattle.std.proofs.Common.{sym, ap, subst, ◌∙◌}
use Rattle.nj_text.specs.Calls.{sign_at}
use Rattle.nj_text.specs.Inside.States.{unless_bad, SignIs, line_at, other_lines_at}
use Rattle.nj_text.proofs.Steps.{at_cursor}
use Rattle.nj_text.proofs.SignsTaken.{sign_fails, no_sign, sign_taken}
use Rattle.nj_text.proofs.sign.take_sign.Goals as goal

pub returns-in-Some : goal.returns-in-Some
returns-in-Some c =
    let start = c.args.start in
    let here = c.skip_blanks-cursor.result in
    at_cursor (unless_bad (sign_at c.args.want)) start.spot here.spot start.rest.now here.rest.now
    c.skip_blanks-cursor.ensures ∙ sign_fails c.args.want here.spot here.rest.now c.in-Some.fault
    c.in-Some.ensures

pub returns-in-LineEnd : goal.returns-in-LineEnd
returns-in-LineEnd c =
    let start = c.args.start in
    let here = c.skip_blanks-cursor.result in
    let moved = at_cursor (unless_bad (sign_at c.args.want)) start.spot here.spot start.rest.now here.rest.now
    c.skip_blanks-cursor.ensures in
    subst (λ r. SignIs r c.take_line_end.result)
    (sym (moved ∙ ap (λ want. unless_bad (sign_at want) (line_at here) (other_lines_at here))
    c.in-LineEnd.is)) c.take_line_end.ensures

pub returns-then-length-eq0 : goal.returns-then-length-eq0
returns-then-length-eq0 c =
    let start = c.args.start in
    let here = c.skip_blanks-cursor.result in
    at_cursor (unless_bad (sign_at c.args.want)) start.spot here.spot start.rest.now here.rest.now
    c.skip_blanks-cursor.ensures
    ∙ no_sign c.args.want here.spot here.rest.now c.in_default-want.not-LineEnd c.in_default.ensures
    (sym c.sign_length-length.ensures ∙ c.if-length-eq0.true)

pub returns : goal.returns
returns c =
    let start = c.args.start in
    let here = c.skip_blanks-cursor.result in
    let after = c.advance in
    at_cursor (unless_bad (sign_at c.args.want)) start.spot here.spot start.rest.now here.rest.now
    c.skip_blanks-cursor.ensures
    ∙ sign_taken c.args.want here.spot here.rest.now c.sign_length-length.result after.result.spot
    after.result.rest.now c.in_default-want.not-LineEnd c.in_default.ensures c.sign_length-length.ensures
    c.if-length-eq0.false after.ensures.spot after.ensures.rest
