-- How a session keeps the output of a run.
use Rattle.std.specs.Prelude.{◌≡◌, ◌≢◌, ◌⊎◌, ℕ, true, false, List, [], None}
use Rattle.std.specs.Str.{is_utf8}
use Rattle.nj_tools.specs.MemorySinks.{Memory, state_of}
use Rattle.nj_cli.specs.declared.status.Status as run
use Rattle.nj_tools.specs.Lines.{line}
use Rattle.nj_cli.specs.Runs.{RunsWords, around, out_of_memory}
use Rattle.nj_c.specs.declared.session_state.Kept.{Kept}
use Rattle.nj_c.specs.declared.status.Status.{Status}
use Rattle.nj_c.specs.declared.status.Status.TheVariants.{Done, Wanted, NotUtf8, OutOfMemory}
use Rattle.nj_c.specs.SuppliedFiles.{Supplied, supplied_state, wanted_paths, ReadsAsSupplied}
use Rattle.nj_c.specs.Loading.{ListsWanted, SameRun}
use Rattle.nj_c.specs.Runs.{untouched}

-- why a text has no arguments
abbrev pub WordsRefused : (text : List ℕ) → Status → Type 0
WordsRefused text status = ((status ≡ NotUtf8) × (is_utf8 text ≡ false)) ⊎ ((status ≡ OutOfMemory) × (is_utf8 text ≡ true))

-- a new sink in memory
abbrev pub empty_memory : Memory
empty_memory = record { bytes = []; limit = None; capacity = 0; failures = 0; took_since_failure = false }

-- the program ran with new sinks, which are kept
abbrev pub Ran : (begun : Supplied) → (after : Kept) → (words : List (List ℕ)) → run.Status → Type 0
Ran begun after words ended =
    RunsWords words (around (supplied_state begun) untouched untouched)
    (around (supplied_state after.files) (state_of after.output) (state_of after.errors)) ended

-- nothing was written, and no sink failed
pub record NoRun (kept : Kept) : Type 0 where
  pub output : kept.output ≡ empty_memory
  pub errors : kept.errors ≡ empty_memory

pub record NoFailures (kept : Kept) : Type 0 where
  pub output : kept.output.failures ≡ 0
  pub errors : kept.errors.failures ≡ 0

-- the output is kept, unless files are wanted
abbrev pub KeepsRun : (before after : Kept) → Status → Type 0
KeepsRun before after Done = SameRun before after × (wanted_paths after.files ≡ []) × (after.wanted.items ≡ [])
KeepsRun before after Wanted =
    NoRun after × (before.errors.bytes ≢ line out_of_memory) × (wanted_paths after.files ≢ []) × ListsWanted after
KeepsRun before after OutOfMemory = NoRun after × (after.wanted.items ≡ [])
KeepsRun before after other = ⊥

-- or an allocation failed
abbrev pub FinishesRun : (before after : Kept) → Status → Type 0
FinishesRun before after Done = NoFailures before × ReadsAsSupplied after.files × KeepsRun before after Done
FinishesRun before after Wanted = NoFailures before × ReadsAsSupplied after.files × KeepsRun before after Wanted
FinishesRun before after OutOfMemory = NoRun after × (after.wanted.items ≡ [])
FinishesRun before after other = ⊥
