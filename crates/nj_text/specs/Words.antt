-- Identifiers, words and values: the meaning of the units of a line.
use Rattle.std.specs.Prelude.{ℕ, Bool, true, false, ◌==◌, if◌then◌else◌, Option, Some, None, List, [], ◌∷◌, map}
use Rattle.std.specs.Option.{option_or}
use Rattle.nj_text.specs.declared.fault.UnitFault.{UnitFault}
use Rattle.nj_text.specs.declared.fault.UnitFault.TheVariants as fault
use Rattle.nj_text.specs.declared.spot.Spot.{Spot}
use Rattle.nj_text.specs.declared.word.Part.{Part}
use Rattle.nj_text.specs.declared.word.Part.TheVariants as part
use Rattle.nj_text.specs.declared.word.Word.{Word}
use Rattle.nj_text.specs.Bytes.{is_space, is_identifier_byte, is_word_byte, begins_with}
use Rattle.nj_text.specs.Units.{Meaning, Ordinary, Escape, Reference, Join, OpeningJoin, LeadingTab, BadByte, BadEscape, TextUnit, is_ordinary_in}

-- ---- tests on units

-- blanks come between the parts of a line: spaces and joins
abbrev pub is_blank : TextUnit → Bool
is_blank u = elim u.means [ Ordinary b ↦ is_space b | Join ↦ true | other ↦ false ]

-- a join that is the first unit of its line
abbrev pub opens_line : TextUnit → Bool
opens_line u = elim u.means [ OpeningJoin ↦ true | other ↦ false ]

-- the units after a join that opens their line, if one does
abbrev pub after_opening : List TextUnit → List TextUnit
after_opening [] = []
after_opening (u ∷ us) = if opens_line u then us else u ∷ us

-- a unit that may stand in an identifier
abbrev pub in_identifier : TextUnit → Bool
in_identifier u = is_ordinary_in is_identifier_byte u.means

-- a unit that is an ordinary byte
abbrev pub is_ordinary : TextUnit → Bool
is_ordinary u = is_ordinary_in (λ b. true) u.means

-- a unit with which a word may begin
abbrev pub opens_word : TextUnit → Bool
opens_word u = elim u.means [ Ordinary b ↦ is_word_byte b | Escape b ↦ true | Reference name ↦ true | other ↦ false ]

-- a join inside a word does not end it
abbrev pub in_word : TextUnit → Bool
in_word u = elim u.means [ Join ↦ true | other ↦ opens_word u ]

-- whether the units begin with this ordinary byte
abbrev pub begins_with_byte : ℕ → List TextUnit → Bool
begins_with_byte b us = begins_with (λ u. is_ordinary_in (λ c. c == b) u.means) us

-- ---- bad units

-- the fault of a unit at the given place, if the unit is bad
abbrev pub fault_of : Meaning → Spot → Option UnitFault
fault_of BadByte spot = Some (fault.BadByte spot)
fault_of BadEscape spot = Some (fault.BadEscape spot)
fault_of LeadingTab spot = Some (fault.Tab spot)
fault_of m spot = None

-- the fault of the first unit, if it is bad
abbrev pub next_fault : List TextUnit → Option UnitFault
next_fault [] = None
next_fault (u ∷ us) = fault_of u.means u.spot

-- the fault of the first bad unit among them
abbrev pub first_fault : List TextUnit → Option UnitFault
first_fault [] = None
first_fault (u ∷ us) = option_or (fault_of u.means u.spot) (first_fault us)

-- ---- the meaning of the units of a word or a value

-- bytes that stand for themselves, or the name of a reference
pub data PartModel : Type 0 where
  Text : (bytes : List ℕ) → PartModel
  Name : (name : List ℕ) → PartModel

-- a byte before a run of ordinary bytes
abbrev pub longer_run : ℕ → List PartModel → List PartModel
longer_run b [] = []
longer_run b (Text bytes ∷ ps) = Text (b ∷ bytes) ∷ ps
longer_run b (Name name ∷ ps) = Text (b ∷ []) ∷ Name name ∷ ps

-- Parts with one more unit before them. A byte of a run that continues makes the first part longer.
abbrev pub part_before : Meaning → (run_continues : Bool) → List PartModel → List PartModel
part_before (Ordinary b) true ps = longer_run b ps
part_before (Ordinary b) false ps = Text (b ∷ []) ∷ ps
part_before (Escape b) run_continues ps = Text (b ∷ []) ∷ ps
part_before (Reference name) run_continues ps = Name name ∷ ps
part_before m run_continues ps = ps

-- A longest run of ordinary bytes is one part; an escape and a reference are a part each; joins add nothing.
abbrev pub parts_of : List TextUnit → List PartModel
parts_of [] = []
parts_of (u ∷ us) = part_before u.means (begins_with is_ordinary us) (parts_of us)

-- a word or a value: its place and its parts
pub record WordModel : Type 0 where
  pub spot : Spot
  pub parts : List PartModel

-- a word of bytes that stand for themselves
abbrev pub plain_model : Spot → List ℕ → WordModel
plain_model spot bytes = record { spot = spot; parts = Text bytes ∷ [] }

-- ---- the same of the program's values

-- a part of a word
abbrev pub part_model : Part → PartModel
part_model (part.Bytes bytes) = Text bytes.now
part_model (part.Name name) = Name name.now

-- a word
abbrev pub word_model : Word → WordModel
word_model w = record { spot = w.spot; parts = map part_model w.parts.items }
