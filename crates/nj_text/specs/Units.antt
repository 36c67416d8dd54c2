-- The one cut of a text, from the left, into units: the longest that fits at each place. A comment is a unit too.
use Rattle.std.specs.Prelude.{ℕ, zero, suc, ◌+◌, Bool, true, false, not, ◌&&◌, ◌==◌, if◌then◌else◌, List, [], ◌∷◌, length, take, drop}
use Rattle.std.specs.List.{take_while}
use Rattle.nj_text.specs.declared.spot.Spot.{Spot}
use Rattle.nj_text.specs.Bytes.{is_space, is_line_feed, is_name_byte, is_identifier_byte, is_escapable, is_ordinary_byte, drop_while, begins_with}

-- the meaning of a unit
pub data Meaning : Type 0 where
  -- a byte that stands for itself
  Ordinary : (byte : ℕ) → Meaning
  -- `$ `, `$:` or `$$`: the second byte, as an ordinary byte
  Escape : (byte : ℕ) → Meaning
  -- `$name` or `${name}`
  Reference : (name : List ℕ) → Meaning
  -- `$` before a line end, and the spaces after it
  Join : Meaning
  -- a join that is the first unit of its line
  OpeningJoin : Meaning
  -- a whole comment, its leading spaces with it, up to the end of its line
  Comment : Meaning
  -- a tab as the first byte after a line's leading spaces
  LeadingTab : Meaning
  -- a line feed, or a carriage return and a line feed
  LineEnd : Meaning
  -- the end of the text, which has no bytes
  TextEnd : Meaning
  -- a NUL, or a carriage return that no line feed follows
  BadByte : Meaning
  -- a `$` that begins no escape, reference or join
  BadEscape : Meaning

-- a unit, with its bytes and the place of the first of them
pub record TextUnit : Type 0 where
  pub spot : Spot
  pub bytes : List ℕ
  pub means : Meaning

-- whether a unit is an ordinary byte that passes the test
abbrev pub is_ordinary_in : (ℕ → Bool) → Meaning → Bool
is_ordinary_in p (Ordinary b) = p b
is_ordinary_in p m = false

-- where in a line a byte is: before its first byte, after spaces alone, or farther on
pub data Position : Type 0 where
  AtStart : Position
  AfterSpaces : Position
  Within : Position

-- ---- one unit

-- the meaning of a unit, and how many bytes it has after its first
abbrev pub Found : Type 0
Found = Meaning × ℕ

-- how many spaces the bytes begin with
abbrev pub spaces_in : List ℕ → ℕ
spaces_in bytes = length (take_while is_space bytes)

-- a reference in braces: after `${` a name, and then `}`
abbrev pub named : List ℕ → Bool → Found
named [] closed = (BadEscape, 0)
named (b ∷ bs) false = (BadEscape, 0)
named (b ∷ bs) true = (Reference (b ∷ bs), length (b ∷ bs) + 2)

-- the reference whose name the bytes begin with, if a closing brace follows the name
abbrev pub in_braces : List ℕ → Found
in_braces bytes = named (take_while is_identifier_byte bytes) (begins_with (λ b. b == 125) (drop_while is_identifier_byte bytes))

-- the unit of a `$` and the bytes after it
abbrev pub after_dollar : List ℕ → Found
after_dollar [] = (BadEscape, 0)
after_dollar (b ∷ bs) =
    if b == 10 then (Join, suc (spaces_in bs))
    else (if b == 13 && begins_with is_line_feed bs then (Join, suc (suc (spaces_in (drop 1 bs))))
    else (if b == 123 then in_braces bs
    else (if is_escapable b then (Escape b, 1)
    else (if is_name_byte b then (Reference (b ∷ take_while is_name_byte bs), suc (length (take_while is_name_byte bs)))
    else (BadEscape, 0)))))

-- the unit that begins with the byte b, within a line
abbrev pub unit_at : ℕ → List ℕ → Found
unit_at b bs =
    if is_ordinary_byte b then (Ordinary b, 0)
    else (if b == 36 then after_dollar bs
    else (if b == 10 then (LineEnd, 0)
    else (if b == 13 && begins_with is_line_feed bs then (LineEnd, 1) else (BadByte, 0))))

-- a join at the front of a text opens it
abbrev pub opening : Meaning → Meaning
opening Join = OpeningJoin
opening m = m

-- A comment has `#` as the first byte after the leading spaces.
abbrev pub opens_comment : List ℕ → Bool
opens_comment bytes = begins_with (λ b. b == 35) (drop_while is_space bytes)

-- the same where the position matters: comments, tabs after leading spaces, joins that open a line
abbrev pub found_at : Position → ℕ → List ℕ → Found
found_at AtStart b bs =
    if opens_comment (b ∷ bs)
    then (Comment, length (take_while (λ c. not (is_line_feed c)) bs))
    else (if b == 9 then (LeadingTab, 0) else (opening (unit_at b bs).0, (unit_at b bs).1))
found_at AfterSpaces b bs = if b == 9 then (LeadingTab, 0) else unit_at b bs
found_at Within b bs = unit_at b bs

-- ---- the cut

-- the position after a unit
abbrev pub position_after : Position → Meaning → Position
position_after position (Ordinary b) = if is_space b then elim position [ Within ↦ Within | other ↦ AfterSpaces ] else Within
position_after position LineEnd = AtStart
position_after position m = Within

-- the place after a byte
abbrev pub spot_after : ℕ → Spot → Spot
spot_after b spot =
    if is_line_feed b then record { line = spot.line + 1; column = 1 }
    else record { line = spot.line; column = spot.column + 1 }

-- the units of the bytes at a place, without the first `skip` bytes, which belong to the unit before
unfoldable pub cut : Position → (skip : ℕ) → Spot → List ℕ → List TextUnit
cut position skip spot [] = record { spot = spot; bytes = []; means = TextEnd } ∷ []
cut position zero spot (b ∷ bs) =
    let found = found_at position b bs in
    record { spot = spot; bytes = b ∷ take found.1 bs; means = found.0 }
    ∷ cut (position_after position found.0) found.1 (spot_after b spot) bs
cut position (suc skip) spot (b ∷ bs) = cut position skip (spot_after b spot) bs

-- the place of the first byte
abbrev pub first_spot : Spot
first_spot = record { line = 1; column = 1 }

-- the units of a whole text
abbrev pub units : List ℕ → List TextUnit
units text = cut AtStart 0 first_spot text
