-- What two sinks that received the same text have in common.
use Rattle.std.specs.Prelude.{◌≡◌, ◌⊎◌, IfSome, Result, Ok, Err}
use Rattle.nj_tools.specs.Sinks.{SinkState}
use Rattle.nj_tools.specs.declared.tool_fault.ToolFault.{ToolFault}
use Rattle.nj_tools.specs.declared.tool_fault.ToolFault.TheVariants.{TextNotUtf8, Write, OutOfMemory}

-- Two sinks that were in the given state are in the same state now. A sink that reported nothing then may report anything.
pub record SameSinks (before one other : SinkState) : Type 0 where
  pub taken : IfSome before.taken (λ bytes. one.taken ≡ other.taken)
  pub failures : one.failures ≡ other.failures
  pub took_since_failure : one.took_since_failure ≡ other.took_since_failure

-- the sink failed, or memory ran out: the text was cut off
abbrev pub IsCut : ToolFault → Type 0
IsCut fault = (fault ≡ Write) ⊎ (fault ≡ OutOfMemory)

-- this holds unless the text was cut off
abbrev pub UnlessCut : {X : Type 0} → Result X ToolFault → Type 0 → Type 0
UnlessCut (Ok done) holds = holds
UnlessCut (Err (TextNotUtf8 fault)) holds = holds
UnlessCut (Err Write) holds = Unit {0}
UnlessCut (Err OutOfMemory) holds = Unit {0}
