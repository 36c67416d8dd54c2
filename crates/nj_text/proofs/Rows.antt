-- Worked rows, computed on the definitions.
use Rattle.std.proofs.Common.{◌≡◌, ℕ, Bool, true, false, Option, Some, None, Ok, Err, List, [], ◌∷◌, refl}
use Rattle.std.proofs.Common.{map}
use Rattle.std.specs.Prelude.{codes}
use Rattle.nj_text.specs.declared.fault.UnitFault.{UnitFault}
use Rattle.nj_text.specs.declared.fault.UnitFault.TheVariants.{BadByte as bad_byte, BadEscape as bad_escape}
use Rattle.nj_text.specs.declared.fault.UnitFault.TheVariants.{Tab}
use Rattle.nj_text.specs.declared.sign.Sign.{Sign}
use Rattle.nj_text.specs.declared.sign.Sign.TheVariants.{Colon, Equals, Pipe, Pipe2, PipeAt}
use Rattle.nj_text.specs.declared.sign.Sign.TheVariants.{LineEnd as line_end}
use Rattle.nj_text.specs.declared.line_start.LineStart.{LineStart}
use Rattle.nj_text.specs.declared.line_start.LineStart.TheVariants.{End, Blank, Indented, Plain, Middle}
use Rattle.nj_text.specs.declared.spot.Spot.{Spot}
use Rattle.nj_text.specs.Units.{units, cut, Meaning, Comment, LineEnd, TextEnd, Ordinary, Join, OpeningJoin}
use Rattle.nj_text.specs.Units.{Escape, Reference, BadByte, BadEscape, LeadingTab}
use Rattle.nj_text.specs.Lines.{text_lines, kind_of, CommentLine, TabLine, PlainLine, BlankLine, IndentedLine}
use Rattle.nj_text.specs.Lines.{line_spot}
use Rattle.nj_text.specs.Words.{PartModel, Text, Name, WordModel}
use Rattle.nj_text.specs.Calls.{State, Failed, Reply, at_front, start_line_of, ident_of, sign_of}
use Rattle.nj_text.specs.Calls.{path_word_of, value_of, spot_of}

-- ---- units

meanings : List ℕ → List Meaning
unfolding cut
meanings text = map (λ u. u.means) (units text)

comment_line : meanings (codes "  # a $x\nb") ≡ Comment ∷ LineEnd ∷ Ordinary 98 ∷ TextEnd ∷ []
unfolding meanings cut
comment_line = refl

joined : meanings (codes "a$\n  b") ≡ Ordinary 97 ∷ Join ∷ Ordinary 98 ∷ TextEnd ∷ []
unfolding meanings cut
joined = refl

joined_by_two : meanings (codes "a$\r\nb") ≡ Ordinary 97 ∷ Join ∷ Ordinary 98 ∷ TextEnd ∷ []
unfolding meanings cut
joined_by_two = refl

escapes : meanings (codes "$ $:$$") ≡ Escape 32 ∷ Escape 58 ∷ Escape 36 ∷ TextEnd ∷ []
unfolding meanings cut
escapes = refl

bare_name : meanings (codes "$x-y.z") ≡ Reference (codes "x-y") ∷ Ordinary 46 ∷ Ordinary 122 ∷ TextEnd ∷ []
unfolding meanings cut
bare_name = refl

name_in_braces : meanings (codes "${a.b}") ≡ Reference (codes "a.b") ∷ TextEnd ∷ []
unfolding meanings cut
name_in_braces = refl

empty_braces : meanings (codes "${}") ≡ BadEscape ∷ Ordinary 123 ∷ Ordinary 125 ∷ TextEnd ∷ []
unfolding meanings cut
empty_braces = refl

open_braces : meanings (codes "${x") ≡ BadEscape ∷ Ordinary 123 ∷ Ordinary 120 ∷ TextEnd ∷ []
unfolding meanings cut
open_braces = refl

dollar_at_the_end : meanings (codes "x$") ≡ Ordinary 120 ∷ BadEscape ∷ TextEnd ∷ []
unfolding meanings cut
dollar_at_the_end = refl

two_byte_line_end : meanings (codes "a\r\nb") ≡ Ordinary 97 ∷ LineEnd ∷ Ordinary 98 ∷ TextEnd ∷ []
unfolding meanings cut
two_byte_line_end = refl

lone_return : meanings (codes "a\rb") ≡ Ordinary 97 ∷ BadByte ∷ Ordinary 98 ∷ TextEnd ∷ []
unfolding meanings cut
lone_return = refl

return_at_the_end : meanings (codes "a$\r") ≡ Ordinary 97 ∷ BadEscape ∷ BadByte ∷ TextEnd ∷ []
unfolding meanings cut
return_at_the_end = refl

nul : meanings (codes "a\0b") ≡ Ordinary 97 ∷ BadByte ∷ Ordinary 98 ∷ TextEnd ∷ []
unfolding meanings cut
nul = refl

bytes_of_a_comment : map (λ u. u.bytes) (units (codes "#\0$\r\n")) ≡ codes "#\0$\r" ∷ codes "\n" ∷ [] ∷ []
unfolding cut
bytes_of_a_comment = refl

hash_in_a_line : meanings (codes "a #") ≡ Ordinary 97 ∷ Ordinary 32 ∷ Ordinary 35 ∷ TextEnd ∷ []
unfolding meanings cut
hash_in_a_line = refl

hash_after_a_join : meanings (codes "$\n# b")
    ≡ OpeningJoin ∷ Ordinary 35 ∷ Ordinary 32 ∷ Ordinary 98 ∷ TextEnd ∷ []
unfolding meanings cut
hash_after_a_join = refl

tab_after_spaces : meanings (codes " \tx\t")
    ≡ Ordinary 32 ∷ LeadingTab ∷ Ordinary 120 ∷ Ordinary 9 ∷ TextEnd ∷ []
unfolding meanings cut
tab_after_spaces = refl

opening_join : meanings (codes "$\n  a\n$\nb")
    ≡ OpeningJoin ∷ Ordinary 97 ∷ LineEnd ∷ OpeningJoin ∷ Ordinary 98 ∷ TextEnd ∷ []
unfolding meanings cut
opening_join = refl

join_after_spaces : meanings (codes " $\n  a") ≡ Ordinary 32 ∷ Join ∷ Ordinary 97 ∷ TextEnd ∷ []
unfolding meanings cut
join_after_spaces = refl

abbrev at : ℕ → ℕ → Spot
at line column = record { line = line; column = column }

places : map (λ u. u.spot) (units (codes "a$\n  b\r\n${x}$ c\n"))
    ≡ at 1 1 ∷ at 1 2 ∷ at 2 3 ∷ at 2 4 ∷ at 3 1 ∷ at 3 5 ∷ at 3 7 ∷ at 3 8 ∷ at 4 1 ∷ []
unfolding cut
places = refl

-- ---- lines

kinds : map kind_of (text_lines (codes "# c\nrule\n  x\n\n"))
    ≡ CommentLine ∷ PlainLine ∷ IndentedLine ∷ BlankLine ∷ BlankLine ∷ []
unfolding cut
kinds = refl

more_kinds : map kind_of (text_lines (codes "  #\r\n \r\n$\n#\n $\nx\n \t #\n\ty"))
    ≡ CommentLine ∷ BlankLine ∷ PlainLine ∷ IndentedLine ∷ TabLine (at 7 2) ∷ TabLine (at 8 1) ∷ []
unfolding cut
more_kinds = refl

is_last : List ℕ → List Bool
unfolding cut
is_last text = map (λ l. l.is_last) (text_lines text)

no_text : is_last (codes "") ≡ true ∷ []
unfolding is_last cut
no_text = refl

last_line_without_its_end : is_last (codes "a\nb") ≡ false ∷ true ∷ []
unfolding is_last cut
last_line_without_its_end = refl

last_line_with_its_end : is_last (codes "a\nb\n") ≡ false ∷ false ∷ true ∷ []
unfolding is_last cut
last_line_with_its_end = refl

line_places : map line_spot (text_lines (codes "a$\n b\n\nc")) ≡ at 1 1 ∷ at 3 1 ∷ at 4 1 ∷ []
unfolding cut
line_places = refl

line_ends : map (λ l. l.end) (text_lines (codes "a$\n b\n\nc")) ≡ at 2 3 ∷ at 3 1 ∷ at 4 2 ∷ []
unfolding cut
line_ends = refl

-- ---- calls

data Expected : Type 0 where
  Begins : LineStart → Expected
  Found : Option (List ℕ) → Expected
  There : Bool → Expected
  Word : Spot → List PartModel → Expected
  NoWord : Expected
  Placed : Spot → Expected
  Fault : UnitFault → Expected

-- a call: its result, and where it leaves the lexer
abbrev Call : Type 0
Call = State → Expected × State

abbrev answered : {A : Type 0} → (A → Expected) → Reply A → Expected × State
answered show (Ok (x, after)) = (show x, after)
answered show (Err f) = (Fault f, Failed f)

abbrev shown : {A : Type 0} → (A → Expected) → (State → Reply A) → Call
shown show call s = answered show (call s)

abbrev found_word : WordModel → Expected
found_word w = Word w.spot w.parts

abbrev found_or_not : Option WordModel → Expected
found_or_not None = NoWord
found_or_not (Some w) = found_word w

abbrev start : Call
start = shown Begins start_line_of

abbrev ident : Call
ident = shown Found ident_of

abbrev sign : Sign → Call
sign want = shown There (sign_of want)

abbrev word : Call
word = shown found_or_not path_word_of

abbrev value : Call
value = shown found_word value_of

abbrev spot : Call
spot s = (Placed (spot_of s), s)

abbrev run : List Call → State → List Expected
run [] s = []
run (call ∷ calls) s = (call s).0 ∷ run calls (call s).1

-- the results of the calls, one after another, from the front of a text on
outcomes : List ℕ → List Call → List Expected
unfolding cut
outcomes text calls = run calls (at_front text)

abbrev some : List ℕ → Expected
some name = Found (Some name)

-- words

escaped_spaces : outcomes (codes "build o$ 1: cp it's$ x")
    (start ∷ ident ∷ word ∷ word ∷ sign Colon ∷ ident ∷ word ∷ word ∷ sign line_end ∷ start ∷ [])
    ≡ Begins Plain ∷ some (codes "build") ∷ Word (at 1 7)
    (Text (codes "o") ∷ Text (codes " ") ∷ Text (codes "1") ∷ []) ∷ NoWord ∷ There true ∷ some (codes "cp") ∷
    Word (at 1 16) (Text (codes "it's") ∷ Text (codes " ") ∷ Text (codes "x") ∷ []) ∷ NoWord ∷ There true ∷
    Begins End ∷ []
unfolding outcomes cut
escaped_spaces = refl

join_in_a_word : outcomes (codes "build o: cp a$\n  b")
    (start ∷ ident ∷ word ∷ sign Colon ∷ ident ∷ word ∷ word ∷ spot ∷ sign line_end ∷ [])
    ≡ Begins Plain ∷ some (codes "build") ∷ Word (at 1 7) (Text (codes "o") ∷ []) ∷ There true ∷ some
    (codes "cp") ∷ Word (at 1 13) (Text (codes "a") ∷ Text (codes "b") ∷ []) ∷ NoWord ∷ Placed (at 2 4) ∷
    There true ∷ []
unfolding outcomes cut
join_in_a_word = refl

join_between_words : outcomes (codes "build o: cp a $\n  b")
    (start ∷ ident ∷ word ∷ sign Colon ∷ ident ∷ word ∷ word ∷ word ∷ [])
    ≡ Begins Plain ∷ some (codes "build") ∷ Word (at 1 7) (Text (codes "o") ∷ []) ∷ There true ∷ some
    (codes "cp") ∷ Word (at 1 13) (Text (codes "a") ∷ []) ∷ Word (at 2 3) (Text (codes "b") ∷ []) ∷ NoWord ∷
    []
unfolding outcomes cut
join_between_words = refl

references_in_words : outcomes (codes "a ${b.c}d$e-f.g|$$#") (start ∷ ident ∷ word ∷ sign Pipe ∷ word ∷ [])
    ≡ Begins Plain ∷ some (codes "a") ∷ Word (at 1 3)
    (Name (codes "b.c") ∷ Text (codes "d") ∷ Name (codes "e-f") ∷ Text (codes ".g") ∷ []) ∷ There true ∷ Word
    (at 1 17) (Text (codes "$") ∷ Text (codes "#") ∷ []) ∷ []
unfolding outcomes cut
references_in_words = refl

identifiers : outcomes (codes "a-b_C.9  d:") (start ∷ ident ∷ spot ∷ ident ∷ ident ∷ spot ∷ [])
    ≡ Begins Plain ∷ some (codes "a-b_C.9") ∷ Placed (at 1 8) ∷ some (codes "d") ∷ Found None ∷ Placed
    (at 1 11) ∷ []
unfolding outcomes cut
identifiers = refl

-- values

trailing_spaces_stay : outcomes (codes "x =  a $b  c$:  \ny")
    (start ∷ ident ∷ sign Equals ∷ value ∷ spot ∷ value ∷ sign line_end ∷ spot ∷ [])
    ≡ Begins Plain ∷ some (codes "x") ∷ There true ∷ Word (at 1 6)
    (Text (codes "a ") ∷ Name (codes "b") ∷ Text (codes "  c") ∷ Text (codes ":") ∷ Text (codes "  ") ∷ []) ∷
    Placed (at 1 17) ∷ Word (at 1 17) [] ∷ There true ∷ Placed (at 2 1) ∷ []
unfolding outcomes cut
trailing_spaces_stay = refl

join_in_a_value : outcomes (codes "x = a$\n   b : c | $\r\nd")
    (start ∷ ident ∷ sign Equals ∷ value ∷ sign line_end ∷ [])
    ≡ Begins Plain ∷ some (codes "x") ∷ There true ∷ Word (at 1 5)
    (Text (codes "a") ∷ Text (codes "b : c | ") ∷ Text (codes "d") ∷ []) ∷ There true ∷ []
unfolding outcomes cut
join_in_a_value = refl

empty_value : outcomes (codes "x =  \n") (start ∷ ident ∷ sign Equals ∷ value ∷ spot ∷ [])
    ≡ Begins Plain ∷ some (codes "x") ∷ There true ∷ Word (at 1 6) [] ∷ Placed (at 1 6) ∷ []
unfolding outcomes cut
empty_value = refl

-- signs

longest_sign : outcomes (codes "| || |@ |||")
    (start ∷ sign Pipe2 ∷ sign PipeAt ∷ sign Pipe ∷ sign Pipe ∷ sign PipeAt ∷ sign Pipe2 ∷ sign Pipe ∷ sign
    Pipe2 ∷ sign PipeAt ∷ sign Pipe ∷ sign Pipe2 ∷ sign Pipe ∷ sign line_end ∷ [])
    ≡ Begins Plain ∷ There false ∷ There false ∷ There true ∷ There false ∷ There false ∷ There true ∷ There
    false ∷ There false ∷ There true ∷ There false ∷ There true ∷ There true ∷ There true ∷ []
unfolding outcomes cut
longest_sign = refl

signs_and_places : outcomes (codes "a: =b")
    (start ∷ sign Colon ∷ ident ∷ sign Equals ∷ sign line_end ∷ sign Colon ∷ spot ∷ sign Equals ∷ spot ∷ [])
    ≡ Begins Plain ∷ There false ∷ some (codes "a") ∷ There false ∷ There false ∷ There true ∷ Placed (at 1 3)
    ∷ There true ∷ Placed (at 1 5) ∷ []
unfolding outcomes cut
signs_and_places = refl

-- faults

bad_escape_in_a_value : outcomes (codes "x = $!")
    (start ∷ ident ∷ sign Equals ∷ spot ∷ value ∷ spot ∷ start ∷ ident ∷ sign line_end ∷ word ∷ value ∷ spot ∷
    []) ≡ Begins Plain ∷ some (codes "x") ∷ There true ∷ Placed (at 1 4) ∷ Fault (bad_escape (at 1 5)) ∷
    Placed (at 1 5) ∷ Fault (bad_escape (at 1 5)) ∷ Fault (bad_escape (at 1 5)) ∷ Fault (bad_escape (at 1 5))
    ∷ Fault (bad_escape (at 1 5)) ∷ Fault (bad_escape (at 1 5)) ∷ Placed (at 1 5) ∷ []
unfolding outcomes cut
bad_escape_in_a_value = refl

dollar_ends_the_text : outcomes (codes "x = $") (start ∷ ident ∷ sign Equals ∷ value ∷ spot ∷ [])
    ≡ Begins Plain ∷ some (codes "x") ∷ There true ∷ Fault (bad_escape (at 1 5)) ∷ Placed (at 1 5) ∷ []
unfolding outcomes cut
dollar_ends_the_text = refl

tab_begins_a_line : outcomes (codes "rule r\n\tcommand = x")
    (start ∷ ident ∷ ident ∷ sign line_end ∷ start ∷ spot ∷ ident ∷ start ∷ [])
    ≡ Begins Plain ∷ some (codes "rule") ∷ some (codes "r") ∷ There true ∷ Fault (Tab (at 2 1)) ∷ Placed
    (at 2 1) ∷ Fault (Tab (at 2 1)) ∷ Fault (Tab (at 2 1)) ∷ []
unfolding outcomes cut
tab_begins_a_line = refl

tab_after_leading_spaces : outcomes (codes "x\n  \t# c") (start ∷ ident ∷ sign line_end ∷ start ∷ spot ∷ [])
    ≡ Begins Plain ∷ some (codes "x") ∷ There true ∷ Fault (Tab (at 2 3)) ∷ Placed (at 2 3) ∷ []
unfolding outcomes cut
tab_after_leading_spaces = refl

fault_in_a_word : outcomes (codes "build o $\n  a$!b") (start ∷ ident ∷ word ∷ word ∷ spot ∷ sign Colon ∷ [])
    ≡ Begins Plain ∷ some (codes "build") ∷ Word (at 1 7) (Text (codes "o") ∷ []) ∷ Fault
    (bad_escape (at 2 4)) ∷ Placed (at 2 4) ∷ Fault (bad_escape (at 2 4)) ∷ []
unfolding outcomes cut
fault_in_a_word = refl

fault_after_a_word : outcomes (codes "build o \rb") (start ∷ ident ∷ word ∷ word ∷ spot ∷ [])
    ≡ Begins Plain ∷ some (codes "build") ∷ Word (at 1 7) (Text (codes "o") ∷ []) ∷ Fault (bad_byte (at 1 9))
    ∷ Placed (at 1 9) ∷ []
unfolding outcomes cut
fault_after_a_word = refl

fault_before_an_identifier : outcomes (codes "x \0") (start ∷ ident ∷ ident ∷ spot ∷ [])
    ≡ Begins Plain ∷ some (codes "x") ∷ Fault (bad_byte (at 1 3)) ∷ Placed (at 1 3) ∷ []
unfolding outcomes cut
fault_before_an_identifier = refl

fault_before_a_sign : outcomes (codes "x $(") (start ∷ ident ∷ sign Colon ∷ spot ∷ [])
    ≡ Begins Plain ∷ some (codes "x") ∷ Fault (bad_escape (at 1 3)) ∷ Placed (at 1 3) ∷ []
unfolding outcomes cut
fault_before_a_sign = refl

first_fault_of_a_value : outcomes (codes "x = a b\0$!") (start ∷ ident ∷ sign Equals ∷ value ∷ [])
    ≡ Begins Plain ∷ some (codes "x") ∷ There true ∷ Fault (bad_byte (at 1 8)) ∷ []
unfolding outcomes cut
first_fault_of_a_value = refl

-- where lines begin and end

empty_text : outcomes (codes "") (start ∷ ident ∷ sign line_end ∷ word ∷ value ∷ spot ∷ start ∷ [])
    ≡ Begins End ∷ Found None ∷ There false ∷ NoWord ∷ Word (at 1 1) [] ∷ Placed (at 1 1) ∷ Begins End ∷ []
unfolding outcomes cut
empty_text = refl

nothing_between_lines : outcomes (codes "a")
    (ident ∷ word ∷ sign line_end ∷ value ∷ spot ∷ start ∷ start ∷ ident ∷ start ∷ sign line_end ∷ sign
    line_end ∷ start ∷ []) ≡ Found None ∷ NoWord ∷ There false ∷ Word (at 1 1) [] ∷ Placed (at 1 1) ∷ Begins
    Plain ∷ Begins Middle ∷ some (codes "a") ∷ Begins Middle ∷ There true ∷ There false ∷ Begins End ∷ []
unfolding outcomes cut
nothing_between_lines = refl

join_opens_a_line : outcomes (codes "$\n  a = b\nc")
    (start ∷ spot ∷ ident ∷ word ∷ sign line_end ∷ spot ∷ start ∷ value ∷ spot ∷ sign line_end ∷ spot ∷ [])
    ≡ Begins Plain ∷ Placed (at 1 1) ∷ Found None ∷ NoWord ∷ There false ∷ Placed (at 1 1) ∷ Begins Middle ∷
    Word (at 2 3) (Text (codes "a = b") ∷ []) ∷ Placed (at 2 8) ∷ There true ∷ Placed (at 3 1) ∷ []
unfolding outcomes cut
join_opens_a_line = refl

joins_open_a_line : outcomes (codes "$\n$\n a") (start ∷ value ∷ [])
    ≡ Begins Plain ∷ Word (at 3 2) (Text (codes "a") ∷ []) ∷ []
unfolding outcomes cut
joins_open_a_line = refl

indented_line : outcomes (codes "r\n  a\n   $\n b")
    (start ∷ sign line_end ∷ ident ∷ sign line_end ∷ start ∷ spot ∷ ident ∷ sign line_end ∷ start ∷ spot ∷
    ident ∷ spot ∷ []) ≡ Begins Plain ∷ There false ∷ some (codes "r") ∷ There true ∷ Begins Indented ∷ Placed
    (at 2 3) ∷ some (codes "a") ∷ There true ∷ Begins Indented ∷ Placed (at 3 4) ∷ some (codes "b") ∷ Placed
    (at 4 3) ∷ []
unfolding outcomes cut
indented_line = refl

comment_ends_the_text : outcomes (codes "a\n  # $! \0")
    (start ∷ ident ∷ sign line_end ∷ spot ∷ start ∷ spot ∷ [])
    ≡ Begins Plain ∷ some (codes "a") ∷ There true ∷ Placed (at 2 1) ∷ Begins End ∷ Placed (at 2 9) ∷ []
unfolding outcomes cut
comment_ends_the_text = refl

comments_and_a_blank_line : outcomes (codes "# c\n#\r\n \r\na") (start ∷ spot ∷ start ∷ spot ∷ ident ∷ [])
    ≡ Begins Blank ∷ Placed (at 4 1) ∷ Begins Plain ∷ Placed (at 4 1) ∷ some (codes "a") ∷ []
unfolding outcomes cut
comments_and_a_blank_line = refl

blank_line_ends_the_text : outcomes (codes "a\r\n   ")
    (start ∷ ident ∷ sign line_end ∷ spot ∷ start ∷ spot ∷ start ∷ [])
    ≡ Begins Plain ∷ some (codes "a") ∷ There true ∷ Placed (at 2 1) ∷ Begins Blank ∷ Placed (at 2 4) ∷ Begins
    End ∷ []
unfolding outcomes cut
blank_line_ends_the_text = refl

places_after_joins : outcomes (codes "a $\r\n  b$\nc")
    (start ∷ ident ∷ spot ∷ ident ∷ spot ∷ ident ∷ spot ∷ [])
    ≡ Begins Plain ∷ some (codes "a") ∷ Placed (at 1 2) ∷ some (codes "b") ∷ Placed (at 2 4) ∷ some
    (codes "c") ∷ Placed (at 3 2) ∷ []
unfolding outcomes cut
places_after_joins = refl
