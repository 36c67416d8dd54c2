use Rattle.std.proofs.Common.{◌≡◌, ℕ, List, [], ap, sym, ◌∙◌}
use Rattle.std.specs.Prelude.{map}
use Rattle.clap.specs.Words.{is_simple, is_simple_and_free, fault_of, kind_of, subcommand_of}
use Rattle.clap.specs.Words.{subcommand_rows_of}
use Rattle.nj_questions.specs.CommandLine.{command}
use Rattle.nj_questions.specs.Inside.Held.{is_question}
use Rattle.nj_questions.proofs.Refused.{simple, simple_and_free, reported}
use Rattle.nj_questions.proofs.Subjects.{names_subject}
use Rattle.nj_questions.proofs.question_of.parse.Goals as goal

pub returns-in-Ok : goal.returns-in-Ok
returns-in-Ok c =
    let words : List (List ℕ) = map (λ word. word.now) c.args.words.now in
    let made = c.in_ok-made.ensures in
    let none : fault_of command words ≡ [] =
    ap (λ app. fault_of app words) (sym made)
    ∙ c.in-Ok.ensures.kinds (ap is_simple_and_free made ∙ simple_and_free) in
    let rows : subcommand_rows_of c.in-Ok.matches ≡ subcommand_of command words =
    (c.in-Ok.ensures.matches (ap is_simple made ∙ simple)).1 ∙ ap (λ app. subcommand_of app words) made in
    record { ok = none; rows = rows; err = tt; question = ap is_question rows ∙ names_subject words none }

pub returns-in-Err-clause-err : goal.returns-in-Err-clause-err
returns-in-Err-clause-err c =
    let words : List (List ℕ) = map (λ word. word.now) c.args.words.now in
    let kinds = c.in-Err.ensures.kinds (ap is_simple_and_free c.in_ok-made.ensures ∙ simple_and_free) in
    reported words (kind_of c.in-Err.error) c.refusal_of.result (rw (← c.in_ok-made.ensures) kinds)
    c.refusal_of.ensures.memory c.refusal_of.ensures.other
