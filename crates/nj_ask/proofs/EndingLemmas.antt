-- How an answer that is given returns once it is written, and how what returns ends.
use Rattle.std.proofs.Common.{◌≡◌, ◌++◌, ℕ, List, [], Result, Ok, Err, inl, inr, refl, sym, subst, true≢false}
use Rattle.std.proofs.Common.{◌∙◌}
use Rattle.std.specs.Prelude.{IsErr}
use Rattle.std.specs.Result.{IsErrAnd}
use Rattle.nj_tools.specs.Sinks.{SinkState}
use Rattle.nj_tools.proofs.SinkLemmas.{Takes-nil}
use Rattle.nj_ask.specs.declared.answer.Answer.{Answer}
use Rattle.nj_ask.specs.declared.answer.Told.{Told}
use Rattle.nj_ask.specs.declared.failure.Failure.{Failure}
use Rattle.nj_ask.specs.declared.failure.Failure.TheVariants.{Refused, Write, OutOfMemory}
use Rattle.nj_ask.specs.declared.status.Status.{Status}
use Rattle.nj_ask.specs.declared.status.Status.TheVariants.{Fault}
use Rattle.nj_ask.specs.Endings.{Ending, Ends, Reported, ReportsError, Sinks, answered, program_line, refused}
use Rattle.nj_ask.specs.Endings.Ends.{ended, output_fails, memory_fails}
use Rattle.nj_ask.specs.Inside.Failures.{Gives, Returns}
use Rattle.nj_ask.specs.Inside.Failures.{ConcludesTold, FailsBy}
use Rattle.nj_ask.specs.Inside.Failures.{Delivers, WritesAnswer}

-- ---- refusals

-- a line that is described in one way is also described in a weaker way
pub fails-weaker : (given : Status) (Says Also : List ℕ → Type 0) → ((line : List ℕ) → Says line → Also line)
    → (failure : Failure) → FailsBy given Says failure → FailsBy given Also failure
fails-weaker given Says Also weaker (Refused line status) fails = (weaker line.items fails.0, fails.1)
fails-weaker given Says Also weaker Write fails = absurd fails
fails-weaker given Says Also weaker OutOfMemory fails = tt

-- a refusal is the answer that its line and its status make
pub gives-refused : (Is : (output : List ℕ) → Ending → Type 0) (given : Status) (Says : List ℕ → Type 0)
    → ((line : List ℕ) → Says line → Is [] (refused line given)) → (failure : Failure)
    → FailsBy given Says failure
    → Gives Is (Err failure)
gives-refused Is given Says such (Refused line status) fails =
    subst (λ s. Is [] (refused line.items s)) (sym fails.1) (such line.items fails.0)
gives-refused Is given Says such Write fails = absurd fails
gives-refused Is given Says such OutOfMemory fails = tt

-- a `?` for which memory ran out
pub gives-memory : (Is : (output : List ℕ) → Ending → Type 0) (result : Result Answer Failure)
    → IsErr result × IsErrAnd result (λ e. e ≡ OutOfMemory) → Gives Is result
gives-memory Is (Ok answer) (is_err, is) = absurd (true≢false (sym is_err))
gives-memory Is (Err e) (is_err, is) = subst (λ failure. Gives Is (Err failure)) (sym is) tt

-- an error of the system that is reported
pub reports-error : (what why : List ℕ) (failure : Failure) (old new : SinkState) (status : Status)
    → FailsBy Fault (λ line. line ≡ program_line (what ++ why)) failure
    → ConcludesTold (Err failure) old new status → ReportsError what old new × (status ≡ Fault)
reports-error what why (Refused line given) old new status fails concludes =
    (inr (why, subst (Reported old new) fails.0 concludes.0), concludes.1 ∙ fails.1)
reports-error what why Write old new status fails concludes = absurd fails
reports-error what why OutOfMemory old new status fails concludes = (inl concludes.0, concludes.1)

-- ---- answers

module _ (Is : (output : List ℕ) → Ending → Type 0) where
  -- an answer that is given and then written
  pub returns-written : (answer : Answer) (old new : SinkState) (result : Result Told Failure)
      → Gives Is (Ok answer) → WritesAnswer answer old new result → Returns Is old new result
  returns-written answer old new (Ok told) is wrote =
      (answer.output.items, rw (wrote.1, wrote.2) is, wrote.0)
  returns-written answer old new (Err (Refused line status)) is wrote = absurd wrote
  returns-written answer old new (Err Write) is wrote =
      (answer.output.items, answered answer.looks answer.warnings.items, is, wrote)
  returns-written answer old new (Err OutOfMemory) is wrote = absurd wrote

  -- without an answer, nothing is written
  pub returns-unwritten : (old : SinkState) (failure : Failure) → Gives Is (Err failure)
      → Returns Is old old (Err failure)
  returns-unwritten old (Refused line status) is = ([], is, Takes-nil old)
  returns-unwritten old Write is = absurd is
  returns-unwritten old OutOfMemory is = ([], inl refl, Takes-nil old)

  -- where it is delivered
  pub returns-delivered : (answer : Result Answer Failure) (old new : SinkState)
      (result : Result Told Failure)
      → Gives Is answer → Delivers answer old new result → Returns Is old new result
  returns-delivered (Ok answer) old new result is delivers = returns-written answer old new result is delivers
  returns-delivered (Err failure) old new result is delivers =
      subst (Returns Is old new) (sym delivers.0)
      (subst (λ s. Returns Is old s (Err failure)) (sym delivers.1) (returns-unwritten old failure is))

  -- what returns, and is then reported
  pub ends-concluded : (old new : Sinks) (told : Result Told Failure) (status : Status)
      → Returns Is old.output new.output told → ConcludesTold told old.error new.error status
      → Ends Is old new status
  ends-concluded old new (Ok told) status returns concludes =
      ended returns.1 returns.2 concludes
  ends-concluded old new (Err (Refused line given)) status returns concludes =
      ended returns.1 returns.2 concludes
  ends-concluded old new (Err Write) status returns concludes =
      subst (Ends Is old new) (sym concludes.1) (output_fails returns.2 returns.3 concludes.0)
  ends-concluded old new (Err OutOfMemory) status returns concludes =
      subst (Ends Is old new) (sym concludes.1) (memory_fails returns.1 returns.2 concludes.0)
