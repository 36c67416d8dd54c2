-- What arguments do, by their question.
use Rattle.std.specs.Prelude.{◌≡◌, ◌⊎◌, ℕ, Result, Ok, Err, List, IfOk, IfErr}
use Rattle.nj_discovered.specs.Times.{DeclaredTimes}
use Rattle.nj_questions.specs.Questions.{question_model}
use Rattle.nj_questions.specs.QuestionOf.{question_of, refusal_model}
use Rattle.nj_questions.specs.declared.questions.Question.{Question}
use Rattle.nj_questions.specs.declared.refusals.Refusal.{Refusal}
use Rattle.nj_questions.specs.declared.refusals.Refusal.TheVariants as refusal
use Rattle.nj_ask.specs.declared.asking.Ended.{Ended}
use Rattle.nj_ask.specs.declared.status.Status.{Status}
use Rattle.nj_ask.specs.Asks.{Around, Asks, Refuses}

-- by a question, or by what refuses the arguments
abbrev pub AsksWith : Result Question Refusal → DeclaredTimes → (folder : List ℕ) → (input : List ℕ) → (old new : Around)
    → Status → Type 0
AsksWith (Ok question) times folder input old new status = Asks (question_model question) times folder input old new status
AsksWith (Err refused) times folder input old new status =
    (new.sources ≡ old.sources) × Refuses refused old.sinks new.sinks status

-- how the arguments are read; or memory runs out
pub record IsRead (words : List (List ℕ)) (read : Result Question Refusal) : Type 0 where
  pub ok : IfOk read (λ question. question_of words ≡ Ok (question_model question))
  pub err : IfErr read (λ refused. (refused ≡ refusal.OutOfMemory) ⊎ (question_of words ≡ Err (refusal_model refused)))

-- by the arguments
pub record AsksWords (words : List (List ℕ)) (times : DeclaredTimes) (folder : List ℕ) (input : List ℕ) (old new : Around)
    (status : Status) : Type 0 where
  pub read : Result Question Refusal
  pub is_read : IsRead words read
  pub asks : AsksWith read times folder input old new status

-- the status alone
abbrev pub ended_status : Ended → Status
ended_status ended = ended.status
