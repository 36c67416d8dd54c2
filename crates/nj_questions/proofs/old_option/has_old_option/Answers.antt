use Rattle.std.proofs.Common.{sym, ap, ◌∙◌}
use Rattle.std.specs.Prelude.{codes}
use Rattle.std.specs.Str.{bytes_eq}
use Rattle.nj_questions.specs.QuestionOf.{is_old_option}
use Rattle.nj_questions.proofs.OldOption.{next-met, next-skipped}
use Rattle.nj_questions.proofs.old_option.has_old_option.Goals as goal

pub returns-then-is_old_option : goal.returns-then-is_old_option
returns-then-is_old_option c =
    let text = c.as_str-word.ensures.value in
    next-met c.args.words.now c.words.word-index c.word-item.result c.words-test.true c.word-item.is
    (ap (λ t. bytes_eq t (codes "--")) (sym text) ∙ sym c.eq.ensures ∙ c.if-eq.false)
    (ap is_old_option (sym text) ∙ sym c.is_old_option.ensures ∙ c.if-is_old_option.true)
    c.words.invariant

pub words-preserved : goal.words-preserved
words-preserved c =
    let text = c.as_str-word.ensures.value in
    next-skipped c.args.words.now c.words.word-index c.word-item.result c.words-test.true c.word-item.is
    (ap (λ t. bytes_eq t (codes "--")) (sym text) ∙ sym c.eq.ensures ∙ c.if-eq.false)
    (ap is_old_option (sym text) ∙ sym c.is_old_option.ensures ∙ c.if-is_old_option.false)
    c.words.invariant
