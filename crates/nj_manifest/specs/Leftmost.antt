-- Where the first fault of some lines is: some statement begins with the elements before it, and no statement begins
-- with these elements and the one at the fault.
use Rattle.std.specs.Prelude.{◌≡◌, ℕ, Bool, true, false, ◌||◌, ◌==◌, Some, Ok, Err, List, [], ◌∷◌, ◌++◌, map, take}
use Rattle.std.specs.List.{take_while, list_all}
use Rattle.nj_text.specs.declared.sign.Sign.TheVariants as sign
use Rattle.nj_text.specs.Bytes.{is_space, is_identifier_byte, is_ordinary_byte, is_word_byte, drop_while, begins_with}
use Rattle.nj_text.specs.Units.{Ordinary, TextUnit, first_spot}
use Rattle.nj_text.specs.Lines.{Line, line_spot, with_units}
use Rattle.nj_text.specs.Words.{in_identifier}
use Rattle.nj_text.specs.Calls.{is_empty, is_sign}
use Rattle.nj_manifest.specs.declared.cause.SyntaxCause.TheVariants as cause
use Rattle.nj_manifest.specs.declared.cause.Wanted.{Wanted}
use Rattle.nj_manifest.specs.declared.cause.Wanted.TheVariants as wanted
use Rattle.nj_manifest.specs.Faults.{Fault, Placed, is_syntax}
use Rattle.nj_manifest.specs.Statements.{PlacedModel, next_statement}

-- whole lines, the first units of one more line, and from there on the rest of that line and the other lines
abbrev pub continues : (before : List Line) → (begun : List TextUnit) → Line → List Line → List Line
continues before begun l ls = before ++ with_units (begun ++ l.units) l ∷ ls

-- ---- elements

-- the units of the first element, by whether it is an identifier, and then by whether it has two bytes
abbrev pub element_by : (identifier two_bytes : Bool) → List TextUnit → List TextUnit
element_by true two_bytes us = take_while in_identifier us
element_by false true us = take 2 us
element_by false false us = take 1 us

-- The first element of the units: a whole identifier; `||` or `|@`; else one unit. The end of a line has no element.
abbrev pub element : List TextUnit → List TextUnit
element us = element_by (begins_with in_identifier us) (is_sign sign.Pipe2 us || is_sign sign.PipeAt us) us

-- ---- lines that are written after a front

-- a byte that stands for itself (its place does not matter here)
abbrev pub written_unit : ℕ → TextUnit
written_unit b = record { spot = first_spot; bytes = b ∷ []; means = Ordinary b }

-- the given bytes as a line
abbrev pub written : List ℕ → Line
written bytes = record { units = map written_unit bytes; end = first_spot; is_last = false }

-- whether each byte may occur in a line and stand for itself
abbrev pub are_plain : List ℕ → Bool
are_plain bytes = list_all is_ordinary_byte bytes

-- ---- the law's words

-- the place that a fault names, where it comes before this rest of a line
abbrev pub NamesThePlaceOf : Fault → Line → Type 0
NamesThePlaceOf (Placed spot cause.BadByte) l = spot ≡ line_spot l
NamesThePlaceOf (Placed spot cause.Tab) l = spot ≡ line_spot l
NamesThePlaceOf (Placed spot cause.BadEscape) l = spot ≡ line_spot l
NamesThePlaceOf (Placed spot (cause.Expected wanted)) l = spot ≡ line_spot l
NamesThePlaceOf (Placed spot cause.UnexpectedIndent) l = spot ≡ record { line = (line_spot l).line; column = 1 }
NamesThePlaceOf (Placed spot (cause.UnknownKey key)) l = spot ≡ line_spot l
NamesThePlaceOf fault l = ⊥

-- The same fault, met before this rest of a line. A bad unit and a key are in the element, and so keep their places.
abbrev pub met_before : Line → Fault → Fault
met_before l (Placed spot (cause.Expected wanted)) = Placed (line_spot l) (cause.Expected wanted)
met_before l (Placed spot cause.UnexpectedIndent) =
    Placed (record { line = (line_spot l).line; column = 1 }) cause.UnexpectedIndent
met_before l fault = fault

-- whether the bytes, which follow spaces, begin with a wanted element
abbrev pub offers_next : Wanted → List ℕ → Bool
offers_next wanted.Statement bytes = begins_with is_identifier_byte bytes
offers_next wanted.RuleName bytes = begins_with is_identifier_byte bytes
offers_next wanted.PoolName bytes = begins_with is_identifier_byte bytes
offers_next wanted.Path bytes = begins_with is_word_byte bytes
offers_next wanted.Colon bytes = begins_with (λ b. b == 58) bytes
offers_next wanted.CommandName bytes = begins_with is_identifier_byte bytes
offers_next wanted.TargetName bytes = begins_with is_word_byte bytes
offers_next wanted.VariableName bytes = begins_with is_identifier_byte bytes
offers_next wanted.Equals bytes = begins_with (λ b. b == 61) bytes
offers_next wanted.Newline bytes = is_empty bytes

-- whether the bytes begin with an element that the fault names as expected
abbrev pub offers : Fault → List ℕ → Bool
offers (Placed spot (cause.Expected wanted)) bytes = offers_next wanted (drop_while is_space bytes)
offers fault bytes = true

-- From this front a statement continues: in the same line with `bytes`, which begin with an element that the fault
-- names as expected, and then with `lines`. Each byte stands for itself.
pub record SomeStatement (before : List Line) (begun : List TextUnit) (fault : Fault) : Type 0 where
  pub bytes : List ℕ
  pub lines : List (List ℕ)
  pub plain_bytes : are_plain bytes ≡ true
  pub offered : offers fault bytes ≡ true
  pub plain_lines : list_all are_plain lines ≡ true
  pub placed : PlacedModel
  pub rest : List Line
  pub reads : next_statement (continues before begun (written bytes) (map written lines)) ≡ Ok (Some placed, rest)

-- from this front, with the given element after it, no statement continues: whatever follows, this fault is the result
abbrev pub Refuses : (before : List Line) → (begun element : List TextUnit) → Fault → Type 0
Refuses before begun here fault =
    (l : Line) (ls : List Line) → element l.units ≡ here → next_statement (continues before begun l ls) ≡ Err (met_before l fault)

-- The lines, cut before the element at which the fault is.
pub record ComesLeftmost (ls : List Line) (fault : Fault) : Type 0 where
  pub before : List Line
  pub begun : List TextUnit
  pub line : Line
  pub others : List Line
  pub cut : ls ≡ continues before begun line others
  pub place : NamesThePlaceOf fault line
  pub some : SomeStatement before begun fault
  pub refuses : Refuses before begun (element line.units) fault

-- Each fault of syntax is the leftmost.
abbrev pub FaultsAreLeftmost : Type 0
FaultsAreLeftmost = (ls : List Line) (fault : Fault) → next_statement ls ≡ Err fault → is_syntax fault ≡ true → ComesLeftmost ls fault
