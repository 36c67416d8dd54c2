-- How an answer ends: what the two outputs get, and the status.
use Rattle.std.specs.Prelude.{◌≡◌, ◌⊎◌, ℕ, Bool, ◌||◌, not, if◌then◌else◌, List, [], ◌++◌, codes}
use Rattle.nj_text.specs.Calls.{is_empty}
use Rattle.nj_text.specs.Faults.{out_of_memory_text}
use Rattle.nj_faults.specs.declared.fault.GraphFault.{GraphFault}
use Rattle.nj_faults.specs.FaultLines.{fault_line_for}
use Rattle.nj_scope.specs.Readings.{IsPrefix}
use Rattle.nj_tools.specs.Sinks.{SinkState, Takes, FailsWithin}
use Rattle.nj_ask.specs.declared.status.Status.{Status}
use Rattle.nj_ask.specs.declared.status.Status.TheVariants.{Done, Fault, Look, OutputFailed}
use Rattle.nj_ask.specs.Affected.{line}

-- ---- the lines of standard error

-- a line of the program's own
abbrev pub program_line : (text : List ℕ) → List ℕ
program_line text = line (codes "ninja-graph: " ++ text)

-- the line of a fault of files, or of what is asked about their graph
abbrev pub fault_line : GraphFault → List ℕ
fault_line fault = line (fault_line_for (codes "ninja-graph") fault)

-- the line that says that memory ran out
abbrev pub memory_line : List ℕ
memory_line = program_line out_of_memory_text

-- ---- how an answer ends

-- The output is the answer, and the warnings say what may be missing from it; `looks` says that there is something to look at even without
-- warnings. Or a line says why there is no answer, or only part of one.
pub data Ending : Type 0 where
  answered : (looks : Bool) → (warnings : List ℕ) → Ending
  refused : (line : List ℕ) → Status → Ending

-- the status of an answer, once its warnings are written
abbrev pub answered_status : (looks : Bool) → (warnings : List ℕ) → Status
answered_status looks warnings = if looks || not (is_empty warnings) then Look else Done

-- the text was written once: the sink received it, or failed on the way, and nothing more was passed to it
abbrev pub Reported : (old new : SinkState) → (text : List ℕ) → Type 0
Reported old new text = Takes old new text ⊎ FailsWithin old new text

-- a line of the program's own says what cannot be done, and then why, in the words of the system; or memory ran out
abbrev pub ReportsError : (what : List ℕ) → (old new : SinkState) → Type 0
ReportsError what old new = Reported old new memory_line ⊎ ((why : List ℕ) × Reported old new (program_line (what ++ why)))

-- What standard error got, and the status. Warnings that cannot be written are an output that fails; whether a fault's line can be
-- written changes nothing.
abbrev pub Concludes : Ending → (old new : SinkState) → Status → Type 0
Concludes (answered looks warnings) old new status =
    (Takes old new warnings × (status ≡ answered_status looks warnings))
    ⊎ (FailsWithin old new warnings × (status ≡ OutputFailed))
Concludes (refused text given) old new status = Reported old new text × (status ≡ given)

-- ---- both outputs

-- the states of standard output and of standard error
pub record Sinks : Type 0 where
  pub output : SinkState
  pub error : SinkState

-- nothing, or the front of an answer's output
abbrev pub IsFront : (Is : (output : List ℕ) → Ending → Type 0) → (front : List ℕ) → Type 0
IsFront Is front = (front ≡ []) ⊎ ((output : List ℕ) × (ending : Ending) × Is output ending × IsPrefix front output)

-- Standard output received an answer, and its ending is reported; or standard output failed within it, and nothing is reported; or memory
-- ran out after the front of an answer.
pub data Ends (Is : (output : List ℕ) → Ending → Type 0) (old new : Sinks) : Status → Type 0 where
  ended : {output : List ℕ} {ending : Ending} {status : Status} → Is output ending → Takes old.output new.output output
      → Concludes ending old.error new.error status → Ends Is old new status
  output_fails : {output : List ℕ} {ending : Ending} → Is output ending → FailsWithin old.output new.output output
      → new.error ≡ old.error → Ends Is old new OutputFailed
  memory_fails : {front : List ℕ} → IsFront Is front → Takes old.output new.output front
      → Reported old.error new.error memory_line → Ends Is old new Fault
