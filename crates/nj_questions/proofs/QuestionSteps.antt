-- The question of arguments, by what is known of them in turn.
use Rattle.std.proofs.Common.{◌≡◌, ◌⊎◌, ◌∙◌, ℕ, true, false, Option, Some, None, Ok, Err, List, []}
use Rattle.std.proofs.Common.{refl, sym, ap, ap₂, inl, inr}
use Rattle.clap.specs.Words.{Row, fault_of, subcommand_of}
use Rattle.nj_questions.specs.CommandLine.{command}
use Rattle.nj_questions.specs.Questions.{QuestionModel}
use Rattle.nj_questions.specs.QuestionOf.{RefusalModel, asked, folder_second, has_old_option, old_option}
use Rattle.nj_questions.specs.QuestionOf.{parsed, question_of}
use Rattle.nj_questions.specs.QuestionOf.{refusal_model, refused_by}
use Rattle.nj_questions.specs.declared.refusals.Refusal.{Refusal}
use Rattle.nj_questions.specs.declared.refusals.Refusal.TheVariants.{OutOfMemory}

pub of_old : (words : List (List ℕ)) → has_old_option words ≡ true → question_of words ≡ Err old_option
unfolding question_of
of_old words old = rw old refl

of_new : (words moved : List (List ℕ)) → has_old_option words ≡ false → moved ≡ folder_second words
    → question_of words ≡ parsed moved
unfolding question_of
of_new words moved new is = rw new (ap parsed (sym is))

pub of_taken : (words moved : List (List ℕ)) (question : QuestionModel)
    (subcommand : Option (List ℕ × List Row))
    → has_old_option words ≡ false → moved ≡ folder_second words → fault_of command moved ≡ []
    → subcommand ≡ subcommand_of command moved
    → asked None subcommand ≡ Ok question → question_of words ≡ Ok question
of_taken words moved question subcommand new is taken met asks = of_new words moved new is
    ∙ ap₂ (λ kinds named. asked (refused_by kinds) named) taken (sym met) ∙ asks

of_refused : (words moved : List (List ℕ)) (refused : RefusalModel) → has_old_option words ≡ false
    → moved ≡ folder_second words → refused_by (fault_of command moved) ≡ Some refused
    → question_of words ≡ Err refused
of_refused words moved refused new is why = of_new words moved new is
    ∙ ap (λ cause. asked cause (subcommand_of command moved)) why

pub of_refusal : (words moved : List (List ℕ)) (refusal : Refusal) → has_old_option words ≡ false
    → moved ≡ folder_second words
    → (refusal ≡ OutOfMemory) ⊎ (refused_by (fault_of command moved) ≡ Some (refusal_model refusal))
    → (refusal ≡ OutOfMemory) ⊎ (question_of words ≡ Err (refusal_model refusal))
of_refusal words moved refusal new is (inl memory) = inl memory
of_refusal words moved refusal new is (inr why) =
    inr (of_refused words moved (refusal_model refusal) new is why)
