-- A tool and its sink.
use Rattle.std.specs.Prelude.{ℕ, List, Result, Ok, Err}
use Rattle.nj_scope.specs.Readings.{IsPrefix}
use Rattle.nj_tools.specs.Sinks.{SinkState, Takes, FailsWithin}
use Rattle.nj_tools.specs.declared.tool_fault.ToolFault.{ToolFault}
use Rattle.nj_tools.specs.declared.tool_fault.ToolFault.TheVariants.{TextNotUtf8, Write, OutOfMemory}

-- the sink took a prefix of the text, or all of it, and did not fail
abbrev pub TakesFront : (old new : SinkState) → (text : List ℕ) → Type 0
TakesFront old new text = (front : List ℕ) × IsPrefix front text × Takes old new front

-- The meaning of a fault: the sink failed within the text, or memory ran out after a prefix of it. The output of the
-- tools need not be UTF-8.
abbrev pub StopsWithin : (old new : SinkState) → (text : List ℕ) → ToolFault → Type 0
StopsWithin old new text Write = FailsWithin old new text
StopsWithin old new text OutOfMemory = TakesFront old new text
StopsWithin old new text (TextNotUtf8 fault) = ⊥

-- The sink took the whole text, or the given fault stopped it within the text.
abbrev pub WritesText : {X : Type 0} → (old new : SinkState) → (text : List ℕ) → Result X ToolFault → Type 0
WritesText old new text (Ok done) = Takes old new text
WritesText old new text (Err fault) = StopsWithin old new text fault
