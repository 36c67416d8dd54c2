-- A sink, and the text that is to be passed to it next.
use Rattle.std.specs.Prelude.{◌≡◌, ℕ, List, ◌++◌, flat_map, Result, Ok, Err}
use Rattle.std.specs.List.{AllByRecursion}
use Rattle.nj_tools.specs.Sinks.{SinkState}
use Rattle.nj_tools.specs.Texts.{StopsWithin}
use Rattle.nj_tools.specs.Inside.Blocks.{IsUnderway}
use Rattle.nj_tools.specs.declared.output.Output.{Output}
use Rattle.nj_tools.specs.declared.tool_fault.ToolFault.{ToolFault}

-- the output is over the same sink and the same buffer
pub record IsSame {S : Type 0} (old new : Output S) : Type 0 where
  pub sink : new.sink.ghost_name ≡ old.sink.ghost_name
  pub pending : new.pending.ghost_name ≡ old.pending.ghost_name

module _ {S : Type 0} (state : S → SinkState) where
  -- a text was added to the pending text, the sink took a prefix of both together, and the rest is pending
  pub record Adds (old new : Output S) (text : List ℕ) : Type 0 where
    pub underway : IsUnderway (state old.sink.now) (state new.sink.now) (old.pending.now.items ++ text) new.pending.now.items

  -- the given fault stopped the output within the text
  pub record Stops (old new : Output S) (text : List ℕ) (fault : ToolFault) : Type 0 where
    pub within : StopsWithin (state old.sink.now) (state new.sink.now) (old.pending.now.items ++ text) fault

  -- a text was added, or the given fault stopped the output within it
  abbrev pub PutsText : {X : Type 0} → (old new : Output S) → (text : List ℕ) → Result X ToolFault → Type 0
  PutsText old new text (Ok done) = Adds old new text
  PutsText old new text (Err fault) = Stops old new text fault

  -- a text was added since the old value, and that text and the text that is left make up the whole
  pub record Leaves (old now : Output S) (whole left : List ℕ) : Type 0 where
    pub text : List ℕ
    pub added : Adds old now text
    pub parts : text ++ left ≡ whole

  -- the same, where a text is left for each of the given items, which all have a property
  pub record LeavesEach {X : Type 0} (text_of : X → List ℕ) (P : X → Type 0) (old now : Output S) (whole : List ℕ) (items : List X) : Type 0 where
    pub all : AllByRecursion P items
    pub left : Leaves old now whole (flat_map text_of items)
