-- The parts of a word or a value, as the lexer gathers them.
use Rattle.std.specs.Prelude.{◌≡◌, ℕ, ◌<◌, ◌≤◌, Bool, true, false, Option, Some, None, Result, Ok, Err, List, [], ◌∷◌, ◌++◌, length, map}
use Rattle.std.specs.List.{take_while}
use Rattle.smallvec.specs.SmallVec.{SmallVec}
use Rattle.nj_text.specs.declared.fault.UnitFault.{UnitFault}
use Rattle.nj_text.specs.declared.fault.WordFault.{WordFault}
use Rattle.nj_text.specs.declared.fault.WordFault.TheVariants as word_fault
use Rattle.nj_text.specs.declared.cursor.Cursor.{Cursor}
use Rattle.nj_text.specs.declared.word.Part.{Part}
use Rattle.nj_text.specs.declared.parts.TextKind.{TextKind}
use Rattle.nj_text.specs.declared.parts.TextKind.TheVariants as kind
use Rattle.nj_text.specs.declared.parts.NextPart.{NextPart}
use Rattle.nj_text.specs.declared.parts.NextPart.TheVariants as next
use Rattle.nj_text.specs.declared.runs.Run.{Run}
use Rattle.nj_text.specs.declared.runs.Run.TheVariants as run
use Rattle.nj_text.specs.Bytes.{drop_while}
use Rattle.nj_text.specs.Inside.Runs.{in_run}
use Rattle.nj_text.specs.Units.{Meaning, LeadingTab, LineEnd, TextEnd, BadByte, BadEscape, TextUnit}
use Rattle.nj_text.specs.Inside.Scans.{units_within}
use Rattle.nj_text.specs.Words.{in_word, next_fault, parts_of, part_model, PartModel}

abbrev pub run_of : TextKind → Run
run_of kind.Word = run.Word
run_of kind.Value = run.Value

-- the units that may occur in a value: all but bad units and the ends of lines
abbrev pub in_value_meaning : Meaning → Bool
in_value_meaning LineEnd = false
in_value_meaning TextEnd = false
in_value_meaning BadByte = false
in_value_meaning BadEscape = false
in_value_meaning LeadingTab = false
in_value_meaning m = true

abbrev pub in_text : TextKind → TextUnit → Bool
in_text kind.Word u = in_word u
in_text kind.Value u = in_value_meaning u.means

abbrev pub units_at : Cursor → List TextUnit
units_at c = units_within c.spot c.rest.now

-- the parts of the text that the units begin with, and the units after it
abbrev pub gathered : TextKind → List TextUnit → List PartModel
gathered kind us = parts_of (take_while (in_text kind) us)

abbrev pub after_text : TextKind → List TextUnit → List TextUnit
after_text kind us = drop_while (in_text kind) us

-- the next part of a text
abbrev pub NextPartIs : TextKind → List TextUnit → NextPart → Type 0
NextPartIs kind us (next.Part p after) =
    (gathered kind us ≡ part_model p ∷ gathered kind (units_at after)) × (after_text kind us ≡ after_text kind (units_at after))
NextPartIs kind us (next.Join after) =
    (gathered kind us ≡ gathered kind (units_at after)) × (after_text kind us ≡ after_text kind (units_at after))
NextPartIs kind us next.End = (gathered kind us ≡ []) × (after_text kind us ≡ us) × (next_fault us ≡ None)
NextPartIs kind us (next.Bad f) = next_fault (after_text kind us) ≡ Some f

-- bytes were skipped
abbrev pub IsShorter : ℕ → NextPart → Type 0
IsShorter n (next.Part p after) = length after.rest.now < n
IsShorter n (next.Join after) = length after.rest.now < n
IsShorter n other = Unit {0}

-- the first byte, if any, fails the test
abbrev pub NoneInRun : (ℕ → Bool) → List ℕ → Type 0
NoneInRun p [] = Unit {0}
NoneInRun p (b ∷ bs) = p b ≡ false

-- The run of ordinary bytes at the front is taken, and none follows it.
abbrev pub TakesRun : TextKind → (old new : List Part) → Cursor → Result Cursor WordFault → Type 0
TakesRun kind old new c (Ok after) =
    (map part_model new ++ gathered kind (units_at after) ≡ map part_model old ++ gathered kind (units_at c))
    × (after_text kind (units_at after) ≡ after_text kind (units_at c))
    × NoneInRun (in_run (run_of kind)) after.rest.now
    × (length after.rest.now ≤ length c.rest.now)
TakesRun kind old new c (Err f) = f ≡ word_fault.OutOfMemory

-- a whole text, or its fault; out of memory does not depend on it
abbrev pub FailsText : WordFault → Option UnitFault → Type 0
FailsText word_fault.OutOfMemory next = Unit {0}
FailsText (word_fault.Unit f) next = next ≡ Some f

abbrev pub Gathers : TextKind → List TextUnit → Result (SmallVec Part × Cursor) WordFault → Type 0
Gathers kind us (Ok r) =
    (map part_model r.0.items ≡ gathered kind us) × (units_at r.1 ≡ after_text kind us) × (next_fault (after_text kind us) ≡ None)
Gathers kind us (Err f) = FailsText f (next_fault (after_text kind us))
