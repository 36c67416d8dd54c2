-- Laws above the cut: units and lines lose nothing of a text, each place counts line feeds and bytes, and the parts of
-- words and values come in the text from left to right.
use Rattle.std.specs.Prelude.{◌≡◌, ℕ, ◌+◌, Bool, not, Option, Some, None, List, [], ◌∷◌, ◌++◌, map}
use Rattle.std.specs.List.{flat_map, count_by, suffix_len}
use Rattle.nj_text.specs.declared.spot.Spot.{Spot}
use Rattle.nj_text.specs.Bytes.{is_line_feed}
use Rattle.nj_text.specs.Units.{TextUnit, units}
use Rattle.nj_text.specs.Lines.{Line, text_lines, ending_of}
use Rattle.nj_text.specs.Words.{PartModel, Text, Name, parts_of}
use Rattle.nj_text.specs.Calls.{bytes_of}

-- the bytes of the units, one after another, are the text
abbrev pub UnitsAreTheText : Type 0
UnitsAreTheText = (text : List ℕ) → bytes_of (units text) ≡ text

-- the place after some bytes: one more than the number of line feeds, and one more than the number of bytes after the
-- last line feed
abbrev pub counted_spot : List ℕ → Spot
counted_spot bytes = record { line = count_by is_line_feed bytes + 1; column = suffix_len (λ b. not (is_line_feed b)) bytes + 1 }

-- each unit is at the place after the bytes of those before it
abbrev pub UnitsComeInPlace : Type 0
UnitsComeInPlace = (text : List ℕ) (us vs : List TextUnit) (u : TextUnit) → units text ≡ us ++ u ∷ vs → u.spot ≡ counted_spot (bytes_of us)

-- a unit as the lines keep it: in a line, or at its end
pub data Mark : Type 0 where
  InLine : (unit : TextUnit) → Mark
  AtEnd : (spot : Spot) (is_last : Bool) → Mark

-- a unit as a mark, by whether it ends a line, and then the last one
abbrev pub mark_by : Option Bool → TextUnit → Mark
mark_by None u = InLine u
mark_by (Some is_last) u = AtEnd u.spot is_last

-- a unit as a mark
abbrev pub mark_of : TextUnit → Mark
mark_of u = mark_by (ending_of u.means) u

-- the units of a line, and then its end
abbrev pub marks_of : Line → List Mark
marks_of l = map InLine l.units ++ AtEnd l.end l.is_last ∷ []

-- the lines, one after another, are the units
abbrev pub LinesAreTheUnits : Type 0
LinesAreTheUnits = (text : List ℕ) → flat_map marks_of (text_lines text) ≡ map mark_of (units text)

-- the bytes of a part, verbatim: a run of ordinary bytes, the byte of an escape, or a name
abbrev pub part_bytes : PartModel → List ℕ
part_bytes (Text bytes) = bytes
part_bytes (Name name) = name

-- The pieces come in the bytes from left to right: each after the end of the one before it.
abbrev pub AreInOrder : (pieces : List (List ℕ)) → (bytes : List ℕ) → Type 0
AreInOrder [] bytes = Unit {0}
AreInOrder (piece ∷ pieces) bytes = (gap : List ℕ) × (rest : List ℕ) × (bytes ≡ gap ++ piece ++ rest) × AreInOrder pieces rest

-- Units that follow one another in a text, as the units of a word or a value do, are a range of its bytes, and their parts
-- come in that range from left to right. So the ranges of the parts rise in the text, and do not overlap.
abbrev pub PartsComeInOrder : Type 0
PartsComeInOrder =
    (text : List ℕ) (before us after : List TextUnit) → units text ≡ before ++ us ++ after
    → (text ≡ bytes_of before ++ bytes_of us ++ bytes_of after) × AreInOrder (map part_bytes (parts_of us)) (bytes_of us)
