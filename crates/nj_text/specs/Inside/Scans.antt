-- The results of the lexer's scans of bytes, in terms of units.
use Rattle.std.specs.Prelude.{◌≡◌, ℕ, ◌+◌, ◌<◌, Bool, true, false, not, ◌&&◌, ◌==◌, if◌then◌else◌, List, [], ◌∷◌, take, drop}
use Rattle.nj_text.specs.declared.spot.Spot.{Spot}
use Rattle.nj_text.specs.declared.dollar.Dollar.{Dollar}
use Rattle.nj_text.specs.declared.dollar.Dollar.TheVariants as dollar
use Rattle.nj_text.specs.declared.unit.NextUnit.{NextUnit}
use Rattle.nj_text.specs.declared.unit.NextUnit.TheVariants as unit
use Rattle.nj_text.specs.declared.sign.Sign.{Sign}
use Rattle.nj_text.specs.declared.sign.Sign.TheVariants as sign
use Rattle.nj_text.specs.Bytes.{begins_with, is_space, is_ordinary_byte}
use Rattle.nj_text.specs.Units.{Meaning, Ordinary, Escape, Reference, Join, LineEnd, BadByte, BadEscape, TextUnit, Found, AtStart, Within, cut}
use Rattle.nj_text.specs.Units.{spot_after}

-- the place after some bytes
abbrev pub spots_after : List ℕ → Spot → Spot
spots_after [] spot = spot
spots_after (b ∷ bs) spot = spots_after bs (spot_after b spot)

-- n columns farther on
abbrev pub advance : ℕ → Spot → Spot
advance n spot = record { line = spot.line; column = spot.column + n }

-- after a line end and some spaces
abbrev pub on_next_line : ℕ → Spot → Spot
on_next_line spaces spot = record { line = spot.line + 1; column = spaces + 1 }

-- whether this byte is the first of the bytes
abbrev pub is_first : ℕ → List ℕ → Bool
is_first b bytes = begins_with (λ x. x == b) bytes

-- the length of the line end at the front
abbrev pub line_end_length : List ℕ → ℕ
line_end_length bytes = if is_first 10 bytes then 1 else (if is_first 13 bytes && is_first 10 (drop 1 bytes) then 2 else 0)

-- the unit that was found after a `$`
abbrev pub dollar_found : Dollar → Found
dollar_found (dollar.Join end spaces) = (Join, end + spaces)
dollar_found (dollar.Escape byte) = (Escape byte, 1)
dollar_found (dollar.Reference name len) = (Reference name.now, len)
dollar_found dollar.Bad = (BadEscape, 0)

-- A join's bytes lead to the next line, after its spaces. No other unit has more bytes than there are.
abbrev pub LandsIn : Dollar → List ℕ → Type 0
LandsIn (dollar.Join end spaces) bytes = (spot : Spot) → spots_after (take (end + spaces) bytes) spot ≡ on_next_line spaces spot
LandsIn (dollar.Escape byte) bytes = (take 1 bytes ≡ byte ∷ []) × ((spot : Spot) → spots_after (take 1 bytes) spot ≡ advance 1 spot)
LandsIn (dollar.Reference name len) bytes = (spot : Spot) → spots_after (take len bytes) spot ≡ advance len spot
LandsIn dollar.Bad bytes = Unit {0}

-- the units within a line at a place
abbrev pub units_within : Spot → List ℕ → List TextUnit
units_within spot bytes = cut Within 0 spot bytes

-- the units at a place are a unit that means m and has n bytes, and then the given units
abbrev pub Begins : Spot → List ℕ → Meaning → ℕ → List TextUnit → Type 0
Begins spot bytes m n after = units_within spot bytes ≡ record { spot = spot; bytes = take n bytes; means = m } ∷ after

-- the units at a place begin with a unit that means m
abbrev pub BeginsBadly : Spot → List ℕ → Meaning → Type 0
BeginsBadly spot bytes m = (n : ℕ) × (after : List TextUnit) × Begins spot bytes m n after

-- the next unit of the bytes, within a line, at any place
abbrev pub NextUnitIs : NextUnit → List ℕ → Type 0
NextUnitIs unit.End bytes = bytes ≡ []
NextUnitIs (unit.Ordinary b) bytes =
    (is_ordinary_byte b ≡ true)
    × (is_first b bytes ≡ true)
    × ((spot : Spot) → Begins spot bytes (Ordinary b) 1 (units_within (advance 1 spot) (drop 1 bytes)))
NextUnitIs (unit.Join n spaces) bytes = (spot : Spot) → Begins spot bytes Join n (units_within (on_next_line spaces spot) (drop n bytes))
NextUnitIs (unit.Escape byte) bytes =
    (b : ℕ) × (byte.now ≡ b ∷ []) × ((spot : Spot) → Begins spot bytes (Escape b) 2 (units_within (advance 2 spot) (drop 2 bytes)))
NextUnitIs (unit.Reference name n) bytes =
    (spot : Spot) → Begins spot bytes (Reference name.now) n (units_within (advance n spot) (drop n bytes))
NextUnitIs (unit.LineEnd n) bytes = (spot : Spot) → Begins spot bytes LineEnd n (cut AtStart 0 (on_next_line 0 spot) (drop n bytes))
NextUnitIs unit.BadByte bytes = (spot : Spot) → BeginsBadly spot bytes BadByte
NextUnitIs unit.BadEscape bytes = (spot : Spot) → BeginsBadly spot bytes BadEscape

-- how many bytes it takes, if it is skipped
abbrev pub unit_length : NextUnit → ℕ
unit_length (unit.Ordinary b) = 1
unit_length (unit.Join n spaces) = n
unit_length (unit.Escape byte) = 2
unit_length (unit.Reference name n) = n
unit_length (unit.LineEnd n) = n
unit_length other = 0

-- a join is longer than its spaces, and a line end has bytes
abbrev pub HasLength : NextUnit → Type 0
HasLength (unit.Join n spaces) = spaces < n
HasLength (unit.LineEnd n) = 0 < n
HasLength (unit.Reference name n) = 0 < n
HasLength other = Unit {0}

abbrev pub begins_with_space_byte : List ℕ → Bool
begins_with_space_byte [] = false
begins_with_space_byte (b ∷ bs) = is_space b

-- whether the bytes begin with a sign that is not a line end
abbrev pub has_sign : Sign → List ℕ → Bool
has_sign sign.Colon bytes = is_first 58 bytes
has_sign sign.Equals bytes = is_first 61 bytes
has_sign sign.Pipe bytes = is_first 124 bytes && not (is_first 124 (drop 1 bytes)) && not (is_first 64 (drop 1 bytes))
has_sign sign.Pipe2 bytes = is_first 124 bytes && is_first 124 (drop 1 bytes)
has_sign sign.PipeAt bytes = is_first 124 bytes && is_first 64 (drop 1 bytes)
has_sign sign.LineEnd bytes = false

abbrev pub sign_size : Sign → ℕ
sign_size sign.Pipe2 = 2
sign_size sign.PipeAt = 2
sign_size want = 1

-- the length of the sign if the bytes begin with it; else 0
abbrev pub sign_length : Sign → List ℕ → ℕ
sign_length want bytes = if has_sign want bytes then sign_size want else 0
