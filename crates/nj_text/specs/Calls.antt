-- The results of the lexer's calls, and where each leaves the lexer.
use Rattle.std.specs.Prelude.{◌≡◌, ℕ, Bool, true, false, ◌&&◌, not, if◌then◌else◌, Option, Some, None, Result, Ok, Err, List, [], ◌∷◌, drop}
use Rattle.std.specs.List.{take_while, flat_map}
use Rattle.std.specs.Option.{option_map_or}
use Rattle.nj_text.specs.declared.fault.UnitFault.{UnitFault}
use Rattle.nj_text.specs.declared.fault.UnitFault.TheVariants as fault
use Rattle.nj_text.specs.declared.fault.LexFault.{LexFault}
use Rattle.nj_text.specs.declared.fault.LexFault.TheVariants as lex
use Rattle.nj_text.specs.declared.sign.Sign.{Sign}
use Rattle.nj_text.specs.declared.sign.Sign.TheVariants as sign
use Rattle.nj_text.specs.declared.line_start.LineStart.{LineStart}
use Rattle.nj_text.specs.declared.line_start.LineStart.TheVariants as start
use Rattle.nj_text.specs.declared.plain_words.PlainWord.{PlainWord}
use Rattle.nj_text.specs.declared.plain_words.PlainWord.TheVariants as plain
use Rattle.nj_text.specs.declared.spot.Spot.{Spot}
use Rattle.nj_text.specs.Bytes.{drop_while, begins_with}
use Rattle.nj_text.specs.Units.{TextUnit, first_spot}
use Rattle.nj_text.specs.Lines.{Line, text_lines, line_spot, with_units, lines_after, Kind, CommentLine, TabLine, BlankLine, IndentedLine, PlainLine, kind_of, is_space_unit}
use Rattle.nj_text.specs.Words.{is_blank, after_opening, in_identifier, opens_word, in_word, begins_with_byte, next_fault, first_fault, parts_of, WordModel, plain_model}

-- Where a lexer is: between lines, before the lines that are left; inside a line, before its rest and the lines after
-- it; or at a fault, permanently.
pub data State : Type 0 where
  Between : (lines : List Line) → State
  Inside : (line : Line) (lines : List Line) → State
  Failed : (fault : UnitFault) → State

-- the result of a call, and the lexer after it; or the fault at which the lexer fails, permanently
abbrev pub Reply : Type 0 → Type 0
Reply A = Result (A × State) UnitFault

-- a fault comes first
abbrev pub unless_fault : {A : Type 0} → Option UnitFault → Reply A → Reply A
unless_fault fault r = option_map_or (λ f. Err f) fault r

-- A call inside a line fails at a bad unit that comes next. Between lines it returns this, and a lexer that failed fails.
abbrev pub in_line : {A : Type 0} → A → (Line → List Line → Reply A) → State → Reply A
in_line between within (Between ls) = Ok (between, Between ls)
in_line between within (Inside l ls) = unless_fault (next_fault l.units) (within l ls)
in_line between within (Failed f) = Err f

-- a lexer at the front of a text
abbrev pub at_front : List ℕ → State
at_front text = Between (text_lines text)

-- ---- start_line

-- a list has no elements
abbrev pub is_empty : {A : Type 0} → List A → Bool
is_empty [] = true
is_empty (x ∷ xs) = false

-- how a line that is not a comment begins
abbrev pub begun_by : Kind → Line → List Line → Reply LineStart
begun_by CommentLine l ls = Ok (start.Plain, Inside l ls)
begun_by (TabLine tab) l ls = Err (fault.Tab tab)
begun_by BlankLine l ls =
    if l.is_last && is_empty l.units then Ok (start.End, Between (l ∷ ls)) else Ok (start.Blank, Between (lines_after l ls))
begun_by IndentedLine l ls = Ok (start.Indented, Inside (with_units (drop_while is_space_unit l.units) l) ls)
begun_by PlainLine l ls = Ok (start.Plain, Inside l ls)

-- the line is a comment
abbrev pub is_comment : Kind → Bool
is_comment CommentLine = true
is_comment kind = false

-- the lines from the first one that is not a comment
abbrev pub without_comments : List Line → List Line
without_comments [] = []
without_comments (l ∷ ls) = if is_comment (kind_of l) then lines_after l (without_comments ls) else l ∷ ls

-- how the first of the lines starts; without a line the text ends
abbrev pub begun : List Line → Reply LineStart
begun [] = Ok (start.End, Between [])
begun (l ∷ ls) = begun_by (kind_of l) l ls

-- The start of the next line that is not a comment; a line that was begun has no other start.
abbrev pub start_line_of : State → Reply LineStart
start_line_of (Between ls) = begun (without_comments ls)
start_line_of (Inside l ls) = Ok (start.Middle, Inside l ls)
start_line_of (Failed f) = Err f

-- ---- ident

-- a line without the blanks with which it begins
abbrev pub after_blanks : Line → Line
after_blanks l = with_units (drop_while is_blank l.units) l

-- the same state after the blanks that come next on its line
abbrev pub skip_blanks_of : State → State
skip_blanks_of (Inside l ls) = Inside (after_blanks l) ls
skip_blanks_of s = s

-- the bytes of the units, verbatim
abbrev pub bytes_of : List TextUnit → List ℕ
bytes_of us = flat_map (λ u. u.bytes) us

-- the bytes, if any
abbrev pub some_bytes : List ℕ → Option (List ℕ)
some_bytes [] = None
some_bytes (b ∷ bs) = Some (b ∷ bs)

-- the identifier with which the rest of a line begins, if any
abbrev pub ident_at : Line → List Line → Reply (Option (List ℕ))
ident_at l ls = Ok (some_bytes (bytes_of (take_while in_identifier l.units)), Inside (with_units (drop_while in_identifier l.units) l) ls)

-- the identifier behind blanks, if any
abbrev pub ident_of : State → Reply (Option (List ℕ))
ident_of s = in_line None ident_at (skip_blanks_of s)

-- ---- sign

-- The units begin with the given sign. The longest sign wins: a `|` before another `|`, or an `@`, is not a lone pipe.
abbrev pub is_sign : Sign → List TextUnit → Bool
is_sign sign.Colon us = begins_with_byte 58 us
is_sign sign.Equals us = begins_with_byte 61 us
is_sign sign.Pipe us = begins_with_byte 124 us && not (begins_with_byte 124 (drop 1 us)) && not (begins_with_byte 64 (drop 1 us))
is_sign sign.Pipe2 us = begins_with_byte 124 us && begins_with_byte 124 (drop 1 us)
is_sign sign.PipeAt us = begins_with_byte 124 us && begins_with_byte 64 (drop 1 us)
is_sign sign.LineEnd us = is_empty us

-- the state after the given sign; the end of a line leads to the next line
abbrev pub state_after_sign : Sign → Line → List Line → State
state_after_sign sign.LineEnd l ls = Between (lines_after l ls)
state_after_sign sign.Pipe2 l ls = Inside (with_units (drop 2 l.units) l) ls
state_after_sign sign.PipeAt l ls = Inside (with_units (drop 2 l.units) l) ls
state_after_sign want l ls = Inside (with_units (drop 1 l.units) l) ls

-- whether the rest of a line begins with this sign, which is then passed
abbrev pub sign_at : Sign → Line → List Line → Reply Bool
sign_at want l ls = if is_sign want l.units then Ok (true, state_after_sign want l ls) else Ok (false, Inside l ls)

-- whether the given sign follows the blanks
abbrev pub sign_of : Sign → State → Reply Bool
sign_of want s = in_line false (sign_at want) (skip_blanks_of s)

-- ---- path_word

-- the word with which the rest of a line begins
abbrev pub word_here : Line → WordModel
word_here l = record { spot = line_spot l; parts = parts_of (take_while in_word l.units) }

-- the word with which the rest of a line begins, if any; a bad unit in it is a fault
abbrev pub word_at : Line → List Line → Reply (Option WordModel)
word_at l ls =
    let rest = drop_while in_word l.units in
    if begins_with opens_word l.units then unless_fault (next_fault rest) (Ok (Some (word_here l), Inside (with_units rest l) ls))
    else Ok (None, Inside l ls)

-- the word behind blanks, if any
abbrev pub path_word_of : State → Reply (Option WordModel)
path_word_of s = in_line None word_at (skip_blanks_of s)

-- ---- spot

-- where the first of the lines begins; without a line, line 1 and column 1
abbrev pub first_line_spot : List Line → Spot
first_line_spot [] = first_spot
first_line_spot (l ∷ ls) = line_spot l

-- the place of a bad unit
abbrev pub fault_spot : UnitFault → Spot
fault_spot (fault.BadByte spot) = spot
fault_spot (fault.Tab spot) = spot
fault_spot (fault.BadEscape spot) = spot

-- the place that a lexer is at
abbrev pub spot_of : State → Spot
spot_of (Between ls) = first_line_spot ls
spot_of (Inside l ls) = line_spot l
spot_of (Failed f) = fault_spot f

-- ---- value

-- the whole rest of a line as one word; a bad unit in it is a fault
abbrev pub value_at : Line → List Line → Reply WordModel
value_at l ls =
    unless_fault (first_fault l.units) (Ok (record { spot = line_spot l; parts = parts_of l.units }, Inside (with_units [] l) ls))

-- The value of a binding: the rest of the line behind joins and blanks. Between lines it is empty.
abbrev pub value_of : State → Reply WordModel
value_of (Between ls) = Ok (record { spot = first_line_spot ls; parts = [] }, Between ls)
value_of (Inside l ls) = value_at (after_blanks (with_units (after_opening l.units) l)) ls
value_of (Failed f) = Err f

-- ---- the calls of the program

-- the bad unit that a fault reports; an out-of-memory fault reports none
abbrev pub unit_of : LexFault → Option UnitFault
unit_of (lex.BadByte spot) = Some (fault.BadByte spot)
unit_of (lex.Tab spot) = Some (fault.Tab spot)
unit_of (lex.BadEscape spot) = Some (fault.BadEscape spot)
unit_of lex.OutOfMemory = None

-- It fails with the fault of the definition, permanently; never out of memory.
abbrev pub Fails : {Y : Type 0} → Option UnitFault → (after : State) → Reply Y → Type 0
Fails (Some f) after expected = (expected ≡ Err f) × (after ≡ Failed f)
Fails None after expected = ⊥

-- It returns the result of the definition, and leaves the lexer where the definition does.
abbrev pub Answers : {X Y : Type 0} → (X → Y) → Result X LexFault → (after : State) → Reply Y → Type 0
Answers view (Ok x) after expected = expected ≡ Ok (view x, after)
Answers view (Err f) after expected = Fails (unit_of f) after expected

-- a line was begun
abbrev pub is_inside : State → Bool
is_inside (Inside l ls) = true
is_inside s = false

-- A call returns its fault, and so does each later call; or memory ran out inside a line, and the state is unchanged.
abbrev pub FailsOrLacksMemory : {Y : Type 0} → Option UnitFault → (before after : State) → Reply Y → Type 0
FailsOrLacksMemory (Some f) before after expected = (expected ≡ Err f) × (after ≡ Failed f)
FailsOrLacksMemory None before after expected = (is_inside before ≡ true) × (after ≡ before)

-- The same of a call that allocates, inside a line only: running out of memory leaves the lexer unchanged.
abbrev pub ReturnsOrLacksMemory : {X Y : Type 0} → (X → Y) → Result X LexFault → (before after : State) → Reply Y → Type 0
ReturnsOrLacksMemory view (Ok x) before after expected = expected ≡ Ok (view x, after)
ReturnsOrLacksMemory view (Err f) before after expected = FailsOrLacksMemory (unit_of f) before after expected

-- ---- words and bindings taken at once

-- It takes the word that `path_word` takes, or nothing.
abbrev pub TakesPlainWord : PlainWord → (before after : State) → Type 0
TakesPlainWord (plain.Word spot bytes) before after = path_word_of before ≡ Ok (Some (plain_model spot bytes.now), after)
TakesPlainWord plain.NoWord before after = path_word_of before ≡ Ok (None, after)
TakesPlainWord plain.Unknown before after = after ≡ before

-- `NAME = VALUE` to the end of its line, as the calls take it one by one
pub record TakesBinding (before after : State) (spot : Spot) (name : List ℕ) (value : WordModel) : Type 0 where
  pub place : spot_of (skip_blanks_of before) ≡ spot
  pub after_name : State
  pub name_taken : ident_of (skip_blanks_of before) ≡ Ok (Some name, after_name)
  pub after_equals : State
  pub equals_taken : sign_of sign.Equals after_name ≡ Ok (true, after_equals)
  pub after_value : State
  pub value_taken : value_of after_equals ≡ Ok (value, after_value)
  pub end_taken : sign_of sign.LineEnd after_value ≡ Ok (true, after)
