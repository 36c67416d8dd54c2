use Rattle.std.proofs.Common.{subst, sym, ◌∙◌}
use Rattle.nj_text.specs.Inside.States.{BegunIs}
use Rattle.nj_text.proofs.LineStarts.{is_not_comment}
use Rattle.nj_text.proofs.line_start.begin_line.Goals as goal

pub returns-in_default : goal.returns-in_default
returns-in_default c =
    subst (λ ls. BegunIs ls c.begin_text_line.result)
    (sym (is_not_comment c.comments.cursor.spot c.comments.cursor.rest.now c.in_default.ensures.comment)
    ∙ c.comments.invariant) c.begin_text_line.ensures
