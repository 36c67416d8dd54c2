-- The tests on units, on their meaning alone, and the kind of a line that begins with any other.
use Rattle.std.specs.Prelude.{Bool, if◌then◌else◌, []}
use Rattle.nj_text.specs.Units.{Meaning, TextUnit, first_spot}
use Rattle.nj_text.specs.Lines.{Kind, IndentedLine, PlainLine}
use Rattle.nj_text.specs.Words.{is_blank, opens_line, opens_word, in_word}

abbrev some_unit : Meaning → TextUnit
some_unit m = record { spot = first_spot; bytes = []; means = m }

abbrev pub is_blank_meaning : Meaning → Bool
is_blank_meaning m = is_blank (some_unit m)

abbrev pub opens_line_meaning : Meaning → Bool
opens_line_meaning m = opens_line (some_unit m)

abbrev pub opens_word_meaning : Meaning → Bool
opens_word_meaning m = opens_word (some_unit m)

abbrev pub in_word_meaning : Meaning → Bool
in_word_meaning m = in_word (some_unit m)

-- the kind of a line in which neither a comment nor a tab comes after the spaces
abbrev pub text_kind : (indented : Bool) → Kind
text_kind indented = if indented then IndentedLine else PlainLine
