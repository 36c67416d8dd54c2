use Rattle.std.proofs.Common.{sym, subst, ◌∙◌, map}
use Rattle.nj_text.specs.Calls.{value_at}
use Rattle.nj_text.specs.Inside.States.{FailsStep}
use Rattle.nj_text.specs.Words.{part_model}
use Rattle.nj_text.proofs.Steps.{at_cursor, value_is_here, value_fails_or_lacks}
use Rattle.nj_text.proofs.line_words.value.Goals as goal

pub returns-in-Ok : goal.returns-in-Ok
returns-in-Ok c =
    let start = c.args.start in
    let here = c.skip_blanks-cursor.result in
    let after = c.in-Ok.after in
    at_cursor value_at start.spot here.spot start.rest.now here.rest.now c.skip_blanks-cursor.ensures
    ∙ value_is_here here.spot here.rest.now (map part_model c.in-Ok.parts.items) after.spot after.rest.now
    c.in-Ok.ensures.2 c.in-Ok.ensures.0 c.in-Ok.ensures.1

pub returns-in-Err : goal.returns-in-Err
returns-in-Err c =
    let start = c.args.start in
    let here = c.skip_blanks-cursor.result in
    subst (λ r. FailsStep r c.in-Err.fault)
    (sym (at_cursor value_at start.spot here.spot start.rest.now here.rest.now
    c.skip_blanks-cursor.ensures))
    (value_fails_or_lacks here.spot here.rest.now c.in-Err.fault c.in-Err.ensures)
