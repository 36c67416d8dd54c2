-- The one cut of a depfile into pieces, from the left, as Ninja's own lexer has it.
use Rattle.std.specs.Prelude.{ℕ, zero, suc, ◌+◌, ◌-◌, ◌/◌, ◌%◌, Bool, not, ◌&&◌, ◌||◌, if◌then◌else◌, ◌==◌, nat_lt, List, [], ◌∷◌, ◌++◌, take, drop, slice_index, slice_range, codes}
use Rattle.std.specs.List.{list_any, prefix_len}
use Rattle.nj_text.specs.Bytes.{is_letter, is_digit}

-- the meaning of a piece
pub data Piece : Type 0 where
  -- bytes of a name
  NameBytes : (bytes : List ℕ) → Piece
  -- the end of a name
  NameEnd : Piece
  -- the end of a line, and of a name
  LineEnd : Piece

-- a byte that stands for itself: of a letter of any alphabet, a digit, or one of the signs; the last four since Ninja 1.13
abbrev pub stands_for_itself : ℕ → Bool
stands_for_itself byte =
    is_letter byte || is_digit byte || nat_lt 127 byte
    || list_any (λ sign. sign == byte) (codes "+,/_:.~(){}%=@[]!-?'&" ++ 34 ∷ [])

-- a byte after which a colon ends the targets: a space, a tab, the end of a line or of the text, or a zero byte
abbrev pub ends_targets : ℕ → Bool
ends_targets byte = byte == 32 || byte == 9 || byte == 10 || byte == 13 || byte == 0

-- the byte at a place, or a zero byte past the end
abbrev pub byte_at : List ℕ → (place : ℕ) → ℕ
byte_at text place = slice_index text place

-- the length of the line end at the given place, or 0
abbrev pub line_end_at : List ℕ → (place : ℕ) → ℕ
line_end_at text place =
    if byte_at text place == 10 then 1
    else (if byte_at text place == 13 && byte_at text (place + 1) == 10 then 2 else 0)

-- the number of backslashes with which a text begins
abbrev pub backslashes : List ℕ → ℕ
backslashes text = prefix_len (λ byte. byte == 92) text

-- how many bytes stand for themselves at the front
abbrev pub literals : List ℕ → ℕ
literals text = prefix_len stands_for_itself text

-- a piece, and how many bytes of the text it is made of
abbrev pub Cut : Type 0
Cut = Piece × ℕ

-- the piece of a text that begins with so many backslashes
abbrev pub after_backslashes : (count : ℕ) → List ℕ → Cut
after_backslashes count text =
    let next = byte_at text count in
    if next == 32 then
    -- if their count is even they stay, and the name ends; otherwise half of the others and a space belong to the name
    (if count % 2 == 1 then (NameBytes (slice_range text ((count + 1) / 2) (count + 1)), count + 1)
    else (NameBytes (take count text), count))
    else (if next == 35 || (next == 58 && not (ends_targets (byte_at text (count + 1)))) then
    -- the last backslash is an escape
    (NameBytes (slice_range text 1 (count + 1)), count + 1)
    else (if next == 10 || next == 13 || next == 0 then
    -- a single backslash is dropped, and joins two lines
    (if count == 1 then (NameEnd, 1 + line_end_at text 1) else (NameBytes (take count text), count))
    else (NameBytes (take (count + 1) text), count + 1)))

-- a dollar is written twice
abbrev pub is_dollar : List ℕ → Bool
is_dollar text = byte_at text 0 == 36 && byte_at text 1 == 36

-- any other sign ends the name
abbrev pub sign_piece : List ℕ → Cut
sign_piece text =
    if is_dollar text then (NameBytes (take 1 text), 2)
    else (if line_end_at text 0 == 0 then (NameEnd, 1) else (LineEnd, line_end_at text 0))

-- the piece of a text that does not begin with a backslash
abbrev pub plain_piece : List ℕ → Cut
plain_piece text = if literals text == 0 then sign_piece text else (NameBytes (take (literals text) text), literals text)

-- the first piece, and how many bytes it takes
abbrev pub first_piece : List ℕ → Cut
first_piece text = if backslashes text == 0 then plain_piece text else after_backslashes (backslashes text) text

-- the pieces of a text, without its first `skip` bytes, which belong to the piece before
unfoldable pub pieces_after : (skip : ℕ) → List ℕ → List Piece
pieces_after skip [] = []
pieces_after zero (byte ∷ text) =
    let first = first_piece (byte ∷ text) in first.0 ∷ pieces_after (first.1 - 1) text
pieces_after (suc skip) (byte ∷ text) = pieces_after skip text

-- a text, cut into pieces
abbrev pub pieces : List ℕ → List Piece
pieces text = pieces_after 0 text
