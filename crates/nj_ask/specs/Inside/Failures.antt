-- How results of the code stand for answers and their endings.
use Rattle.std.specs.Prelude.{◌≡◌, ℕ, List, [], Result, Ok, Err}
use Rattle.nj_faults.specs.declared.fault.GraphFault.{GraphFault}
use Rattle.nj_faults.specs.declared.fault.Cause.TheVariants as cause
use Rattle.nj_tools.specs.Sinks.{SinkState, Takes, FailsWithin}
use Rattle.nj_tools.specs.declared.tool_fault.ToolFault.{ToolFault}
use Rattle.nj_tools.specs.declared.tool_fault.ToolFault.TheVariants as tool
use Rattle.nj_ask.specs.declared.answer.Answer.{Answer}
use Rattle.nj_ask.specs.declared.answer.Told.{Told}
use Rattle.nj_ask.specs.declared.failure.Failure.{Failure}
use Rattle.nj_ask.specs.declared.failure.Failure.TheVariants.{Refused, Write, OutOfMemory}
use Rattle.nj_ask.specs.declared.status.Status.{Status}
use Rattle.nj_ask.specs.declared.status.Status.TheVariants.{Fault, OutputFailed}
use Rattle.nj_ask.specs.Endings.{Concludes, Ending, IsFront, Reported, answered, fault_line, memory_line, refused}

-- ---- failures

-- a refusal with the given status, whose line is described; or memory ran out
abbrev pub FailsBy : Status → (Says : (line : List ℕ) → Type 0) → Failure → Type 0
FailsBy given Says (Refused line status) = Says line.items × (status ≡ given)
FailsBy given Says Write = ⊥
FailsBy given Says OutOfMemory = Unit {0}

-- the line of a fault other than a lack of memory
abbrev pub SaysFault : GraphFault → (line : List ℕ) → Type 0
SaysFault fault line = (line ≡ fault_line fault) × ¬ (fault.cause ≡ cause.OutOfMemory)

-- why a tool stopped
abbrev pub Stops : ToolFault → Failure → Type 0
Stops (tool.TextNotUtf8 fault) failure = FailsBy Fault (SaysFault fault) failure
Stops tool.Write failure = failure ≡ Write
Stops tool.OutOfMemory failure = failure ≡ OutOfMemory

-- ---- answers that are built, and then written

-- an answer that is built, where `Is` says what its output and its ending are
abbrev pub Gives : (Is : (output : List ℕ) → Ending → Type 0) → Result Answer Failure → Type 0
Gives Is (Ok answer) = Is answer.output.items (answered answer.looks answer.warnings.items)
Gives Is (Err (Refused line status)) = Is [] (refused line.items status)
Gives Is (Err Write) = ⊥
Gives Is (Err OutOfMemory) = Unit {0}

-- what standard output received of an answer, and what is left to report
abbrev pub Returns : (Is : (output : List ℕ) → Ending → Type 0) → (old new : SinkState) → Result Told Failure → Type 0
Returns Is old new (Ok told) =
    (output : List ℕ) × Is output (answered told.looks told.warnings.items) × Takes old new output
Returns Is old new (Err (Refused line status)) =
    (output : List ℕ) × Is output (refused line.items status) × Takes old new output
Returns Is old new (Err Write) = (output : List ℕ) × (ending : Ending) × Is output ending × FailsWithin old new output
Returns Is old new (Err OutOfMemory) = (front : List ℕ) × IsFront Is front × Takes old new front

-- ---- answers that are written

-- how an answer is written to standard output
abbrev pub WritesAnswer : Answer → (old new : SinkState) → Result Told Failure → Type 0
WritesAnswer answer old new (Ok told) =
    Takes old new answer.output.items × (told.looks ≡ answer.looks) × (told.warnings ≡ answer.warnings)
WritesAnswer answer old new (Err (Refused line status)) = ⊥
WritesAnswer answer old new (Err Write) = FailsWithin old new answer.output.items
WritesAnswer answer old new (Err OutOfMemory) = ⊥

-- an answer is written, if any
abbrev pub Delivers : Result Answer Failure → (old new : SinkState) → Result Told Failure → Type 0
Delivers (Ok answer) old new told = WritesAnswer answer old new told
Delivers (Err failure) old new told = (told ≡ Err failure) × (new ≡ old)

-- ---- answers that are reported

-- how what is left to report is reported on standard error
abbrev pub ConcludesTold : Result Told Failure → (old new : SinkState) → Status → Type 0
ConcludesTold (Ok told) old new status = Concludes (answered told.looks told.warnings.items) old new status
ConcludesTold (Err (Refused line given)) old new status = Concludes (refused line.items given) old new status
ConcludesTold (Err Write) old new status = (new ≡ old) × (status ≡ OutputFailed)
ConcludesTold (Err OutOfMemory) old new status = Reported old new memory_line × (status ≡ Fault)
