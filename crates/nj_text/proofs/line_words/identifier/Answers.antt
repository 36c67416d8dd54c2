use Rattle.std.proofs.Common.{sym, ap, ◌∙◌}
use Rattle.nj_text.specs.Calls.{ident_at}
use Rattle.nj_text.specs.Inside.States.{reply, unless_bad, inside, lines_within}
use Rattle.nj_text.proofs.Steps.{at_cursor, identifier_fails, identifier_here, some_if_any, none_if_empty}
use Rattle.nj_text.proofs.line_words.identifier.Goals as goal

pub returns-in-Some : goal.returns-in-Some
returns-in-Some c =
    let start = c.args.start in
    let here = c.skip_blanks-cursor.result in
    at_cursor (unless_bad ident_at) start.spot here.spot start.rest.now here.rest.now
    c.skip_blanks-cursor.ensures ∙ identifier_fails here.spot here.rest.now c.in-Some.fault
    c.in-Some.ensures

pub returns-then-is_empty : goal.returns-then-is_empty
returns-then-is_empty c =
    let start = c.args.start in
    let here = c.skip_blanks-cursor.result in
    let run = c.run in
    at_cursor (unless_bad ident_at) start.spot here.spot start.rest.now here.rest.now
    c.skip_blanks-cursor.ensures
    ∙ identifier_here here.spot run.result.1.spot here.rest.now run.result.0.now run.result.1.rest.now
    run.ensures.whole run.ensures.run run.ensures.after run.ensures.spot c.in_default.ensures
    ∙ ap (λ name. reply name (inside (lines_within run.result.1.spot run.result.1.rest.now)))
    (none_if_empty run.result.0.now (sym c.is_empty.ensures ∙ c.if-is_empty.true))

pub returns : goal.returns
returns c =
    let start = c.args.start in
    let here = c.skip_blanks-cursor.result in
    let run = c.run in
    at_cursor (unless_bad ident_at) start.spot here.spot start.rest.now here.rest.now
    c.skip_blanks-cursor.ensures
    ∙ identifier_here here.spot run.result.1.spot here.rest.now run.result.0.now run.result.1.rest.now
    run.ensures.whole run.ensures.run run.ensures.after run.ensures.spot c.in_default.ensures
    ∙ ap (λ name. reply name (inside (lines_within run.result.1.spot run.result.1.rest.now)))
    (some_if_any run.result.0.now (sym c.is_empty.ensures ∙ c.if-is_empty.false))
