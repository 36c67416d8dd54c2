use Rattle.std.proofs.Common.{sym, ◌∙◌}
use Rattle.nj_text.proofs.LineStarts.{comment_opens, over_last_comment, over_comment_read, nil_if_empty}
use Rattle.nj_text.proofs.LineStarts.{comment_spot}
use Rattle.nj_text.proofs.line_start.past_comment.Goals as goal

pub returns-then-is_empty-clause-comment : goal.returns-then-is_empty-clause-comment
returns-then-is_empty-clause-comment c =
    let cursor = c.args.cursor in
    let hash = c.in-Some-eq35-default in
    let end = c.run-2 in
    let opens = comment_opens cursor.rest.now c.run.result.1.rest.now hash.field-0-1.now hash.field-0-0
    c.run.ensures.after hash.ensures hash.field-0-0-test in
    over_last_comment cursor.spot end.result.1.spot cursor.rest.now end.result.1.rest.now opens
    (comment_spot cursor.spot end.result.1.spot cursor.rest.now end.result.0.now end.ensures.spot
    end.ensures.run) end.ensures.after
    (nil_if_empty end.result.1.rest.now (sym c.is_empty.ensures ∙ c.if-is_empty.true))

pub returns-clause-comment : goal.returns-clause-comment
returns-clause-comment c =
    let cursor = c.args.cursor in
    let hash = c.in-Some-eq35-default in
    let end = c.run-2 in
    let after = c.on_next_line in
    let opens = comment_opens cursor.rest.now c.run.result.1.rest.now hash.field-0-1.now hash.field-0-0
    c.run.ensures.after hash.ensures hash.field-0-0-test in
    over_comment_read cursor.spot end.result.1.spot after.result.spot cursor.rest.now end.result.1.rest.now
    after.result.rest.now opens
    (comment_spot cursor.spot end.result.1.spot cursor.rest.now end.result.0.now end.ensures.spot
    end.ensures.run) end.ensures.after
    (sym c.is_empty.ensures ∙ c.if-is_empty.false) after.ensures.spot after.ensures.rest
