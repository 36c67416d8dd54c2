-- The logical lines of a text: its units, cut after each line end.
use Rattle.std.specs.Prelude.{ℕ, Bool, true, false, if◌then◌else◌, Option, Some, None, List, [], ◌∷◌}
use Rattle.nj_text.specs.declared.spot.Spot.{Spot}
use Rattle.nj_text.specs.Bytes.{is_space, drop_while, begins_with}
use Rattle.nj_text.specs.Units.{Meaning, Comment, LeadingTab, LineEnd, TextEnd, TextUnit, is_ordinary_in, units}

-- a line: its units, the place where it ends, and whether the text ends there too
pub record Line : Type 0 where
  pub units : List TextUnit
  pub end : Spot
  pub is_last : Bool

-- whether a unit ends its line, and then whether it ends the text
abbrev pub ending_of : Meaning → Option Bool
ending_of LineEnd = Some false
ending_of TextEnd = Some true
ending_of m = None

-- a unit before the first of the lines
abbrev pub before_first_line : TextUnit → List Line → List Line
before_first_line u [] = []
before_first_line u (l ∷ ls) = record { units = u ∷ l.units; end = l.end; is_last = l.is_last } ∷ ls

-- lines with one more unit before them, by whether that unit ends a line
abbrev pub lines_before : Option Bool → TextUnit → List Line → List Line
lines_before None u ls = before_first_line u ls
lines_before (Some is_last) u ls = record { units = []; end = u.spot; is_last = is_last } ∷ ls

-- the given units, cut into lines
abbrev pub lines_of : List TextUnit → List Line
lines_of [] = []
lines_of (u ∷ us) = lines_before (ending_of u.means) u (lines_of us)

-- the lines of a whole text; after its last line end comes one more line, which may have no units
abbrev pub text_lines : List ℕ → List Line
text_lines text = lines_of (units text)

-- the place of the first unit, or the end if there are no units
abbrev pub spot_of_first : List TextUnit → Spot → Spot
spot_of_first [] end = end
spot_of_first (u ∷ us) end = u.spot

-- the place of a line's first unit, or of its end
abbrev pub line_spot : Line → Spot
line_spot l = spot_of_first l.units l.end

-- a line with the given units in place of its own
abbrev pub with_units : List TextUnit → Line → Line
with_units us l = record { units = us; end = l.end; is_last = l.is_last }

-- the lines after the given line; after the last line its empty end is left
abbrev pub lines_after : Line → List Line → List Line
lines_after l ls = if l.is_last then with_units [] l ∷ ls else ls

-- ---- kinds of lines

-- the kind of a line
pub data Kind : Type 0 where
  -- a comment
  CommentLine : Kind
  -- a tab as the first byte after the leading spaces, whatever follows
  TabLine : (tab : Spot) → Kind
  -- nothing but spaces
  BlankLine : Kind
  -- spaces, and then something
  IndentedLine : Kind
  -- something at once
  PlainLine : Kind

-- a unit that is a space
abbrev pub is_space_unit : TextUnit → Bool
is_space_unit u = is_ordinary_in is_space u.means

-- the kind of a line with the given unit after its leading spaces, if any
abbrev pub kind_with : Meaning → Spot → (indented : Bool) → Kind
kind_with Comment spot indented = CommentLine
kind_with LeadingTab spot indented = TabLine spot
kind_with m spot indented = if indented then IndentedLine else PlainLine

-- the kind of a line by its units after the leading spaces, and by whether it has leading spaces
abbrev pub kind_after_spaces : List TextUnit → (indented : Bool) → Kind
kind_after_spaces [] indented = BlankLine
kind_after_spaces (u ∷ us) indented = kind_with u.means u.spot indented

-- the kind of a line
abbrev pub kind_of : Line → Kind
kind_of l = kind_after_spaces (drop_while is_space_unit l.units) (begins_with is_space_unit l.units)
