use Rattle.std.proofs.Common.{sym, subst, ◌∙◌, map}
use Rattle.nj_text.specs.Calls.{word_at}
use Rattle.nj_text.specs.Inside.States.{unless_bad, FailsStep}
use Rattle.nj_text.specs.Words.{part_model}
use Rattle.nj_text.proofs.Steps.{at_cursor, word_fails_at_once, no_word_here, word_is_here}
use Rattle.nj_text.proofs.Steps.{word_fails_or_lacks}
use Rattle.nj_text.proofs.line_words.word.Goals as goal

pub returns-in-Some : goal.returns-in-Some
returns-in-Some c =
    let start = c.args.start in
    let here = c.skip_blanks-cursor.result in
    at_cursor (unless_bad word_at) start.spot here.spot start.rest.now here.rest.now
    c.skip_blanks-cursor.ensures ∙ word_fails_at_once here.spot here.rest.now c.in-Some.fault
    c.in-Some.ensures

pub returns-then-not-begins_word : goal.returns-then-not-begins_word
returns-then-not-begins_word c =
    let start = c.args.start in
    let here = c.skip_blanks-cursor.result in
    at_cursor (unless_bad word_at) start.spot here.spot start.rest.now here.rest.now
    c.skip_blanks-cursor.ensures
    ∙ no_word_here here.spot here.rest.now c.in_default.ensures
    (sym c.begins_word.ensures ∙ c.if-not-begins_word.true)

pub returns-in-Ok : goal.returns-in-Ok
returns-in-Ok c =
    let start = c.args.start in
    let here = c.skip_blanks-cursor.result in
    let after = c.in-Ok.after in
    at_cursor (unless_bad word_at) start.spot here.spot start.rest.now here.rest.now
    c.skip_blanks-cursor.ensures
    ∙ word_is_here here.spot here.rest.now (map part_model c.in-Ok.parts.items) after.spot after.rest.now
    c.in_default.ensures (sym c.begins_word.ensures ∙ c.if-not-begins_word.false) c.in-Ok.ensures.2
    c.in-Ok.ensures.0 c.in-Ok.ensures.1

pub returns-in-Err : goal.returns-in-Err
returns-in-Err c =
    let start = c.args.start in
    let here = c.skip_blanks-cursor.result in
    subst (λ r. FailsStep r c.in-Err.fault)
    (sym (at_cursor (unless_bad word_at) start.spot here.spot start.rest.now here.rest.now
    c.skip_blanks-cursor.ensures))
    (word_fails_or_lacks here.spot here.rest.now c.in-Err.fault c.in_default.ensures
    (sym c.begins_word.ensures ∙ c.if-not-begins_word.false) c.in-Err.ensures)
