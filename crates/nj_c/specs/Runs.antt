-- Runs of the program over the supplied files.
use Rattle.std.specs.Prelude.{◌≡◌, ◌≢◌, ◌⊎◌, ◌==◌, ℕ, ℤ, pos, Bool, true, false, List, [], ◌∷◌, ◌++◌, All, Some}
use Rattle.std.specs.List.{flat_map, slice_split}
use Rattle.std.specs.Str.{is_utf8}
use Rattle.nj_tools.specs.Sinks.{SinkState}
use Rattle.nj_tools.specs.MemorySinks.{Memory, state_of}
use Rattle.nj_cli.specs.declared.status.Status as run
use Rattle.nj_cli.specs.declared.status.Status.TheVariants.{OutputFailed}
use Rattle.nj_tools.specs.Lines.{line}
use Rattle.nj_cli.specs.Runs.{RunsWords, around, out_of_memory}
use Rattle.nj_cli.specs.Status.{exit_code}
use Rattle.nj_c.specs.declared.session_state.Kept.{Kept}
use Rattle.nj_c.specs.declared.status.Status.{Status}
use Rattle.nj_c.specs.declared.status.Status.TheVariants.{Done, Wanted, NotUtf8, OutOfMemory}
use Rattle.nj_c.specs.SuppliedFiles.{Supplied, supplied_state, wanted_paths, ReadsAsSupplied, SameFiles}
use Rattle.nj_c.specs.Loading.{unread, ListsWanted}

-- ---- the words

-- a zero byte
abbrev pub is_zero : ℕ → Bool
is_zero byte = byte == 0

-- the text after the last zero byte is an argument only if it is not empty
abbrev pub last_word : List ℕ → List (List ℕ)
last_word [] = []
last_word (byte ∷ bytes) = (byte ∷ bytes) ∷ []

-- words without an empty one at the end
abbrev pub without_empty_last : List (List ℕ) → List (List ℕ)
without_empty_last [] = []
without_empty_last (word ∷ []) = last_word word
without_empty_last (word ∷ next ∷ words) = word ∷ without_empty_last (next ∷ words)

-- the arguments in a text; each ends before a zero byte or at the end of the text
abbrev pub given_words : List ℕ → List (List ℕ)
given_words text = without_empty_last (slice_split is_zero text)

-- Each list of words without zero bytes can be passed, as a text with a zero byte after each word.
abbrev pub AllWordsCanBeGiven : Type 0
AllWordsCanBeGiven = (words : List (List ℕ)) → All (All (λ byte. is_zero byte ≡ false)) words
    → given_words (flat_map (λ word. word ++ 0 ∷ []) words) ≡ words

-- ---- a run

-- a sink that was not used yet
abbrev pub untouched : SinkState
untouched = record { taken = Some []; failures = 0; took_since_failure = false }

-- The program ran with the given arguments over the supplied files, and wrote the given bytes to standard output and standard error,
-- without a failure.
pub record HasRun (begun after : Supplied) (words : List (List ℕ)) (output errors : Memory) (ended : run.Status) : Type 0 where
  pub runs : RunsWords words (around (supplied_state begun) untouched untouched)
      (around (supplied_state after) (state_of output) (state_of errors)) ended
  pub found : ReadsAsSupplied after
  pub no_failures : (output.failures ≡ 0) × (errors.failures ≡ 0)

-- So it never ends as a run whose standard output could not be written.
abbrev pub OutputsNeverFail : Type 0
OutputsNeverFail = (begun after : Supplied) (words : List (List ℕ)) (output errors : Memory) (ended : run.Status)
    → HasRun begun after words output errors ended → ended ≢ OutputFailed

-- nothing is kept of a run's output
pub record KeepsNoOutput (after : Kept) : Type 0 where
  pub output : after.output.bytes ≡ []
  pub errors : after.errors.bytes ≡ []

-- the load, the lists and what was joined stay the same
pub record SameLoad (before after : Kept) : Type 0 where
  pub graph : after.graph ≡ before.graph
  pub fault : after.fault ≡ before.fault
  pub found : after.found ≡ before.found
  pub mark : after.mark ≡ before.mark
  pub stale : after.stale ≡ before.stale
  pub log : after.log ≡ before.log
  pub unknown : after.unknown ≡ before.unknown

-- The session after a run with the given arguments, by its status. All files that it read were supplied, unless some are wanted.
abbrev pub LeavesRun : (begun : Supplied) → (after : Kept) → (words : List (List ℕ)) → (exit_before exit_after : ℤ) → Status → Type 0
LeavesRun begun after words exit_before exit_after Done =
    (ended : run.Status) × (exit_after ≡ pos (exit_code ended)) × HasRun begun after.files words after.output after.errors ended
    × (wanted_paths after.files ≡ []) × (after.wanted.items ≡ [])
LeavesRun begun after words exit_before exit_after Wanted =
    (ended : run.Status) × (output : Memory) × (errors : Memory) × (exit_after ≡ exit_before)
    × HasRun begun after.files words output errors ended × (errors.bytes ≢ line out_of_memory)
    × KeepsNoOutput after × ListsWanted after × (wanted_paths after.files ≢ [])
LeavesRun begun after words exit_before exit_after OutOfMemory =
    (exit_after ≡ exit_before) × KeepsNoOutput after × (after.wanted.items ≡ [])
LeavesRun begun after words exit_before exit_after other = ⊥

-- The same for a text, which has the arguments if it is UTF-8.
abbrev pub LeavesRunOfText : (before after : Kept) → (text : List ℕ) → (exit_before exit_after : ℤ) → Status → Type 0
LeavesRunOfText before after text exit_before exit_after status =
    ((is_utf8 text ≡ true) × LeavesRun (unread before.files) after (given_words text) exit_before exit_after status)
    ⊎ ((status ≡ NotUtf8) × (is_utf8 text ≡ false) × (exit_after ≡ exit_before) × KeepsNoOutput after × (after.wanted.items ≡ []))

-- The supplied files and the load stay the same in a run.
abbrev pub RunsKept : (before after : Kept) → (text : List ℕ) → (exit_before exit_after : ℤ) → Status → Type 0
RunsKept before after text exit_before exit_after status =
    SameFiles before.files after.files × SameLoad before after × LeavesRunOfText before after text exit_before exit_after status
