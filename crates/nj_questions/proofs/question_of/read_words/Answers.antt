use Rattle.std.proofs.Common.{◌≡◌, List, ℕ, ap, inr, sym, ◌∙◌}
use Rattle.std.specs.Prelude.{map, string_bytes}
use Rattle.clap.specs.Words.{subcommand_rows_of}
use Rattle.nj_questions.specs.Questions.{question_model}
use Rattle.nj_questions.proofs.QuestionSteps.{of_old, of_refusal, of_taken}
use Rattle.nj_questions.proofs.question_of.read_words.Goals as goal

pub returns-then-has_old_option-clause-err : goal.returns-then-has_old_option-clause-err
returns-then-has_old_option-clause-err c =
    inr (of_old (map string_bytes c.args.words.now) (sym c.has_old_option.ensures ∙ c.if-has_old_option.true))

pub returns-in-Ok-clause-ok : goal.returns-in-Ok-clause-ok
returns-in-Ok-clause-ok c =
    of_taken (map string_bytes c.args.words.now) (map (λ word. word.now) c.deref.result.now)
    (question_model c.in_ok-asked-in-Ok.field-0)
    (subcommand_rows_of c.in-Ok.matches) (sym c.has_old_option.ensures ∙ c.if-has_old_option.false)
    (ap (λ words. map (λ word. word.now) words) c.deref.ensures.value ∙ c.in_ok-moved.ensures)
    c.in-Ok.ensures.ok c.in-Ok.ensures.rows c.in_ok-asked-in-Ok.ensures

pub returns-clause-err : goal.returns-clause-err
returns-clause-err c =
    of_refusal (map string_bytes c.args.words.now) (map (λ word. word.now) c.deref.result.now)
    c.in-Err.refusal
    (sym c.has_old_option.ensures ∙ c.if-has_old_option.false)
    (ap (λ words. map (λ word. word.now) words) c.deref.ensures.value ∙ c.in_ok-moved.ensures)
    c.in-Err.ensures.err
