-- The session after a run.
use Rattle.std.proofs.Common.{◌≡◌, ◌≢◌, inl, inr, ℕ, ◌+◌, ◌-◌, ◌^◌, min, ℤ, pos, Bool, true, false, Ok, Err}
use Rattle.std.proofs.Common.{Result, List, [], refl, sym, ap, subst, ◌∙◌, arith, true≢false}
use Rattle.std.specs.Str.{is_utf8}
use Rattle.nj_tools.specs.MemorySinks.{state_of}
use Rattle.nj_requests.specs.Actions.{ActionModel, RequestModel}
use Rattle.nj_args.specs.Requests.{request_of}
use Rattle.nj_args.specs.declared.usage_fault.UsageFault.{UsageFault}
use Rattle.nj_scope.specs.ReadingList.{ReadStatement}
use Rattle.nj_tools.specs.Sinks.{SinkState, FailsAfter}
use Rattle.nj_cli.specs.declared.status.Status as run
use Rattle.nj_cli.specs.declared.status.Status.TheVariants as cli
use Rattle.nj_cli.specs.declared.status.Status.TheVariants.{OutputFailed, Usage}
use Rattle.nj_cli.specs.Answers.{Ending, finished, stopped, faulty}
use Rattle.nj_cli.specs.Reported.{Reports}
use Rattle.nj_cli.specs.Runs.{Around, RunEnds, RunsWith, RunsWords, around}
use Rattle.nj_cli.specs.Runs.RunEnds.{reported, output_fails, memory_fails}
use Rattle.nj_cli.specs.Status.{exit_code}
use Rattle.nj_c.specs.declared.session_state.Kept.{Kept}
use Rattle.nj_c.specs.declared.status.Status.{Status}
use Rattle.nj_c.specs.declared.status.Status.TheVariants.{Done, Nothing, Short, Fault, Wanted, NotLoaded}
use Rattle.nj_c.specs.declared.status.Status.TheVariants.{BadNumber, BadMark, NotUtf8, NotOpen, OutOfMemory}
use Rattle.nj_c.specs.declared.status.Status.TheVariants.{BadLog}
use Rattle.nj_c.specs.SuppliedFiles.{Supplied, supplied_for, supplied_state, SameFiles}
use Rattle.nj_c.specs.Loading.{unread}
use Rattle.nj_c.specs.Runs.{untouched, given_words, KeepsNoOutput, OutputsNeverFail, LeavesRun}
use Rattle.nj_c.specs.Runs.{RunsKept, SameLoad}
use Rattle.nj_c.specs.Inside.RunsHeld.{FinishesRun, NoRun, Ran, WordsRefused}

-- ---- the declared files stay the same

files-with : (request : Result RequestModel UsageFault) (old new : Around) (status : run.Status)
    → RunsWith request old new status
    → (path : List ℕ) → new.source.files path ≡ old.source.files path
files-with (Ok request) old new status runs path = runs.1.read.files path
files-with (Err fault) old new status runs path = ap (λ s. s.files path) runs.0.source

pub files-stay : (words : List (List ℕ)) (old new : Around) (status : run.Status)
    → RunsWords words old new status
    → (path : List ℕ) → new.source.files path ≡ old.source.files path
files-stay words old new status (inl runs) path = files-with (request_of words) old new status runs path
files-stay words old new status (inr fails) path = ap (λ s. s.files path) fails.0.source

-- ---- how a run ends

no-output : (kept : Kept) → NoRun kept → KeepsNoOutput kept
no-output kept none = record {
  output = ap (λ m. m.bytes) none.output;
  errors =
      ap (λ m. m.bytes) none.errors;
}

-- from new sinks
pub from-new : (words : List (List ℕ)) (before after : Kept) (ended : run.Status) → NoRun before
    → RunsWords words (around (supplied_state before.files) (state_of before.output) (state_of before.errors))
    (around (supplied_state after.files) (state_of after.output) (state_of after.errors)) ended
    → Ran before.files after words ended
from-new words before after ended none runs =
    let end = around (supplied_state after.files) (state_of after.output) (state_of after.errors) in
    subst (λ m. RunsWords words (around (supplied_state before.files) untouched (state_of m)) end ended)
    none.errors
    (subst (λ m. RunsWords words (around (supplied_state before.files) (state_of m) (state_of before.errors))
    end ended) none.output runs)

module _ (words : List (List ℕ)) (begun : Supplied) (mid after : Kept) (ended : run.Status) where
  pub ends-done : (before exit : ℤ) → Ran begun mid words ended → after.files ≡ mid.files
      → exit ≡ pos (exit_code ended) → FinishesRun mid after Done
      → LeavesRun begun after words before exit Done
  ends-done before exit ran files is (none, found, (same, whole, wanted)) = (
    ended,
    is,
    record {
      runs = rw (files, same.output, same.errors) ran;
      found = found;
      no_failures = (
        ap (λ m. m.failures) same.output ∙ none.output,
        ap (λ m. m.failures) same.errors
            ∙ none.errors,
      );
    },
    whole,
    wanted,
  )

  pub ends-other : (exit : ℤ) (status : Status) → Ran begun mid words ended → after.files ≡ mid.files
      → (status ≡ Done → ⊥) → FinishesRun mid after status
      → LeavesRun begun after words exit exit status
  ends-other exit Done ran files other finishes = absurd (other refl)
  ends-other exit Wanted ran files other (none, found, (nothing, memory, some, wanted)) = (
    ended,
    mid.output,
    mid.errors,
    refl,
    record { runs = rw files ran; found = found; no_failures = (none.output, none.errors) },
    memory,
    no-output after nothing,
    wanted,
    some,
  )
  ends-other exit OutOfMemory ran files other (nothing, wanted) = (refl, no-output after nothing, wanted)
  ends-other exit Nothing ran files other finishes = absurd finishes
  ends-other exit Short ran files other finishes = absurd finishes
  ends-other exit Fault ran files other finishes = absurd finishes
  ends-other exit NotLoaded ran files other finishes = absurd finishes
  ends-other exit BadNumber ran files other finishes = absurd finishes
  ends-other exit BadMark ran files other finishes = absurd finishes
  ends-other exit NotUtf8 ran files other finishes = absurd finishes
  ends-other exit NotOpen ran files other finishes = absurd finishes
  ends-other exit BadLog ran files other finishes = absurd finishes

-- ---- the whole run

pub same-load : (before middle after : Kept) → SameLoad before middle → SameLoad middle after
    → SameLoad before after
same-load before middle after one two = record {
  graph = two.graph ∙ one.graph;
  fault = two.fault ∙ one.fault;
  found = two.found ∙ one.found;
  mark = two.mark ∙ one.mark;
  stale = two.stale ∙ one.stale;
  log = two.log ∙ one.log;
  unknown = two.unknown ∙ one.unknown;
}

pub runs-kept : (before middle after : Kept) (text : List ℕ) (words : List (List ℕ)) (exit new : ℤ)
    (status : Status) → is_utf8 text ≡ true → middle.files ≡ unread before.files
    → SameLoad before middle → words ≡ given_words text → SameFiles middle.files after.files
    → SameLoad middle after
    → LeavesRun middle.files after words exit new status → RunsKept before after text exit new status
runs-kept before middle after text words exit new status utf8 begun one are files two ends = (
  (λ path. files path ∙ ap (λ f. supplied_for f path) begun),
  same-load before middle after one two,
  inl (
    utf8,
    subst (λ ws. LeavesRun (unread before.files) after ws exit new status) are
        (subst (λ f. LeavesRun f after words exit new status) begun ends),
  ),
)

pub not-run : (before middle : Kept) (text : List ℕ) (exit : ℤ) (status : Status)
    → middle.files ≡ unread before.files → SameLoad before middle → NoRun middle
    → middle.wanted.items ≡ [] → WordsRefused text status → RunsKept before middle text exit exit status
not-run before middle text exit status begun one none wanted (inl (is, why)) =
    ((λ path. ap (λ f. supplied_for f path) begun), one, inr (is, why, refl, no-output middle none, wanted))
not-run before middle text exit status begun one none wanted (inr (is, utf8)) = (
  (λ path. ap (λ f. supplied_for f path) begun),
  one,
  inl (
    utf8,
    subst (LeavesRun (unread before.files) middle (given_words text) exit exit) (sym is)
        (refl, no-output middle none, wanted),
  ),
)

-- ---- its status

abbrev is-failed : run.Status → Bool
is-failed OutputFailed = true
is-failed other = false

other-status : (status is : run.Status) → is-failed is ≡ false → status ≡ is → status ≢ OutputFailed
other-status status is other same failed = true≢false (ap is-failed (sym failed ∙ same) ∙ other)

-- a sink that failed counts its failure
pub fails-once : (old new : SinkState) (front : List ℕ) → old ≡ untouched → FailsAfter old new front
    → new.failures ≡ 0 → ⊥
fails-once old new front begun fails none =
    let one : min (0 + 1) (2 ^ 64 - 1) ≡ 0 =
    sym (fails.failures ∙ ap (λ s. min (s.failures + 1) (2 ^ 64 - 1)) begun) ∙ none in
    absurd (omega (arith, one))

told-so : (ending : Ending) (old new : SinkState) (ended : run.Status) → old ≡ untouched → new.failures ≡ 0
    → Reports ending old new ended → ended ≢ OutputFailed
told-so finished old new ended begun none (same, is) = other-status ended cli.Done refl is
told-so (stopped mark) old new ended begun none (inl (took, is)) = other-status ended cli.Stopped refl is
told-so (stopped mark) old new ended begun none (inr (failed, is)) =
    absurd (fails-once old new failed.0 begun failed.2 none)
told-so (faulty text) old new ended begun none (told, is) = other-status ended cli.Fault refl is

ends-so : (entries : List ReadStatement) (action : ActionModel) (old new : Around) (ended : run.Status)
    → old.output ≡ untouched → old.error ≡ untouched
    → new.output.failures ≡ 0 → new.error.failures ≡ 0 → RunEnds entries action old new ended
    → ended ≢ OutputFailed
ends-so entries action old new ended out err no-out no-err (reported ending ends took told) =
    told-so ending old.error new.error ended err no-err told
ends-so entries action old new _ out err no-out no-err (output_fails failed same) =
    absurd (fails-once old.output new.output failed.0 out failed.2 no-out)
ends-so entries action old new _ out err no-out no-err (memory_fails front told) =
    other-status cli.Fault cli.Fault refl refl

request-ends : (request : Result RequestModel UsageFault) (old new : Around) (ended : run.Status)
    → old.output ≡ untouched → old.error ≡ untouched
    → new.output.failures ≡ 0 → new.error.failures ≡ 0 → RunsWith request old new ended → ended ≢ OutputFailed
request-ends (Ok request) old new ended out err no-out no-err (files, read, inl refused) =
    other-status ended cli.Fault refl refused.status_is
request-ends (Ok request) old new ended out err no-out no-err (files, read, inr answered) =
    ends-so answered.entries request.action old new ended out err no-out no-err answered.ends
request-ends (Err fault) old new ended out err no-out no-err misused = other-status ended Usage refl misused.1

words-end : (words : List (List ℕ)) (old new : Around) (ended : run.Status) → old.output ≡ untouched
    → old.error ≡ untouched
    → new.output.failures ≡ 0 → new.error.failures ≡ 0 → RunsWords words old new ended → ended ≢ OutputFailed
words-end words old new ended out err no-out no-err (inl runs) =
    request-ends (request_of words) old new ended out err no-out no-err runs
words-end words old new ended out err no-out no-err (inr fails) = other-status ended cli.Fault refl fails.1

pub never-fails : OutputsNeverFail
never-fails begun after words output errors ended has =
    words-end words (around (supplied_state begun) untouched untouched)
    (around (supplied_state after) (state_of output) (state_of errors)) ended
    refl refl has.no_failures.0 has.no_failures.1 has.runs
