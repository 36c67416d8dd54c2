-- Answers by their parts, and why there are none.
use Rattle.std.proofs.Common.{◌≡◌, ◌≢◌, ◌⊎◌, ◌++◌, ℕ, Bool, false, Option, Some, List, []}
use Rattle.std.proofs.Common.{Result, Ok, Err, inl, inr, refl, sym, ap, subst, ◌∙◌}
use Rattle.std.specs.Prelude.{codes}
use Rattle.nj_faults.specs.Faults.{no_memory}
use Rattle.nj_faults.specs.declared.fault.GraphFault.{GraphFault}
use Rattle.nj_needs.specs.MarkFaults.{IsReadFault, fault_text}
use Rattle.nj_needs.specs.declared.mark_fault.MarkFault.{MarkFault}
use Rattle.nj_needs.specs.declared.mark_fault.MarkFault.TheVariants as mark
use Rattle.nj_ask.specs.declared.answer.Answer.{Answer}
use Rattle.nj_ask.specs.declared.failure.Failure.{Failure}
use Rattle.nj_ask.specs.declared.failure.Failure.TheVariants.{Refused, Write, OutOfMemory}
use Rattle.nj_ask.specs.declared.status.Status.{Status}
use Rattle.nj_ask.specs.declared.status.Status.TheVariants.{Fault, Usage}
use Rattle.nj_ask.specs.Answers.{mark_misuse}
use Rattle.nj_ask.specs.Endings.{Ending, program_line, refused}
use Rattle.nj_ask.specs.Inside.AnswerParts.{SaysErr}
use Rattle.nj_ask.specs.Inside.Failures.{Gives}
use Rattle.nj_ask.specs.Inside.Failures.{FailsBy, SaysFault}

-- ---- refusals

-- a line that says something says what follows from that
pub fails-weaker : (status : Status) (P Q : (line : List ℕ) → Type 0) → ((line : List ℕ) → P line → Q line)
    → (failure : Failure) → FailsBy status P failure → FailsBy status Q failure
fails-weaker status P Q such (Refused line given) fails = (such line.items fails.0, fails.1)
fails-weaker status P Q such Write fails = fails
fails-weaker status P Q such OutOfMemory fails = fails

-- the fault in place of a value
pub says-err : {A : Type 0} (expected : Result A GraphFault) (fault : GraphFault)
    → (fault ≡ no_memory) ⊎ (expected ≡ Err fault)
    → (failure : Failure) → FailsBy Fault (SaysFault fault) failure → FailsBy Fault (SaysErr expected) failure
says-err expected fault why failure fails =
    fails-weaker Fault (SaysFault fault) (SaysErr expected) (by why) failure fails
  where
    by : (fault ≡ no_memory) ⊎ (expected ≡ Err fault) → (line : List ℕ) → SaysFault fault line
        → SaysErr expected line
    by (inl memory) line says = absurd (says.1 (ap (λ (f : GraphFault). f.cause) memory))
    by (inr is) line says = (fault, is, says.0)

-- a refusal as an answer
pub gives-refused : (Is : (output : List ℕ) → Ending → Type 0) (status : Status)
    (Says : (line : List ℕ) → Type 0)
    → ((line : List ℕ) → Says line → Is [] (refused line status))
    → (failure : Failure) → FailsBy status Says failure → Gives Is (Err failure)
gives-refused Is status Says such (Refused line given) fails =
    subst (λ s. Is [] (refused line.items s)) (sym fails.1) (such line.items fails.0)
gives-refused Is status Says such Write fails = fails
gives-refused Is status Says such OutOfMemory fails = fails

-- an answer of one kind is an answer of another
pub gives-weaker : (Is Also : (output : List ℕ) → Ending → Type 0)
    → ((output : List ℕ) (ending : Ending) → Is output ending → Also output ending)
    → (answer : Result Answer Failure) → Gives Is answer → Gives Also answer
gives-weaker Is Also such (Ok answer) gives = such _ _ gives
gives-weaker Is Also such (Err (Refused line status)) gives = such _ _ gives
gives-weaker Is Also such (Err Write) gives = gives
gives-weaker Is Also such (Err OutOfMemory) gives = gives

-- ---- marks

-- a text that is not read as a mark is not a mark
pub bad-mark : (text : List ℕ) (meant : Option (List ℕ)) (fault : MarkFault) → IsReadFault meant fault
    → (failure : Failure)
    → FailsBy Usage (λ line. (fault ≢ mark.OutOfMemory)
    × (line ≡ program_line (codes "bad mark '" ++ text ++ codes "'"))) failure
    → FailsBy Usage (λ line. mark_misuse text meant ≡ Some line) failure
bad-mark text meant mark.BadMark is failure fails =
    fails-weaker Usage _ (λ line. mark_misuse text meant ≡ Some line)
    (λ line says. ap (mark_misuse text) is ∙ ap (λ l. Some l) (sym says.1)) failure fails
bad-mark text meant mark.MarkOutOfRange is failure fails = elim is [ ]
bad-mark text meant mark.OutOfMemory is failure fails =
    fails-weaker Usage _ (λ line. mark_misuse text meant ≡ Some line)
    (λ line says. absurd (says.0 refl)) failure fails

-- a mark at which no walk is resumed leads to no edge
pub lost-mark : (leads : Bool) (fault : MarkFault)
    → (fault ≡ mark.OutOfMemory) ⊎ ((fault ≡ mark.MarkOutOfRange) × (leads ≡ false)) → (failure : Failure)
    → FailsBy Fault (λ line. (fault ≢ mark.OutOfMemory) × (line ≡ program_line (fault_text fault))) failure
    → FailsBy Fault (λ line. (leads ≡ false) × (line ≡ program_line (codes "mark out of range"))) failure
lost-mark leads fault why failure fails =
    fails-weaker Fault (λ line. (fault ≢ mark.OutOfMemory) × (line ≡ program_line (fault_text fault)))
    (λ line. (leads ≡ false) × (line ≡ program_line (codes "mark out of range"))) (by why) failure fails
  where
    by : (fault ≡ mark.OutOfMemory) ⊎ ((fault ≡ mark.MarkOutOfRange) × (leads ≡ false)) → (line : List ℕ)
        → (fault ≢ mark.OutOfMemory) × (line ≡ program_line (fault_text fault))
        → (leads ≡ false) × (line ≡ program_line (codes "mark out of range"))
    by (inl memory) line says = absurd (says.0 memory)
    by (inr lost) line says = (lost.1, says.1 ∙ ap (λ f. program_line (fault_text f)) lost.0)
