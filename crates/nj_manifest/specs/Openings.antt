-- Where the next statement of some lines begins.
use Rattle.std.specs.Prelude.{if◌then◌else◌, Option, Some, None, Result, Ok, Err, List, [], ◌∷◌}
use Rattle.nj_text.specs.declared.spot.Spot.{Spot}
use Rattle.nj_text.specs.Bytes.{drop_while}
use Rattle.nj_text.specs.Lines.{Line, line_spot, with_units, lines_after, Kind, CommentLine, TabLine, BlankLine, IndentedLine, PlainLine}
use Rattle.nj_text.specs.Lines.{kind_of, is_space_unit}
use Rattle.nj_text.specs.Calls.{without_comments}
use Rattle.nj_manifest.specs.declared.cause.SyntaxCause.TheVariants as cause
use Rattle.nj_manifest.specs.Faults.{Fault, Placed}

-- the value read from lines, and the lines after it
abbrev pub Parse : Type 0 → Type 0
Parse A = Result (A × List Line) Fault

-- after the last line of a text nothing is read
abbrev pub or_last : {A : Type 0} → Line → (last others : A) → A
or_last l last others = if l.is_last then last else others

-- a line without its leading spaces
abbrev pub without_spaces : Line → Line
without_spaces l = with_units (drop_while is_space_unit l.units) l

-- the first column of an indented line
abbrev pub front_of : Line → Spot
front_of l = record { line = (line_spot (without_spaces l)).line; column = 1 }

-- the first line that is neither a comment nor blank, by the kind of the given line, and the lines after it
abbrev pub opening_by : Kind → Line → List Line → Parse (Option Line) → Parse (Option Line)
opening_by CommentLine l ls others = or_last l (Ok (None, lines_after l (without_comments ls))) others
opening_by (TabLine tab) l ls others = Err (Placed tab cause.Tab)
opening_by IndentedLine l ls others = Err (Placed (front_of l) cause.UnexpectedIndent)
opening_by BlankLine l ls others = or_last l (Ok (None, lines_after l ls)) others
opening_by PlainLine l ls others = Ok (Some l, ls)

-- the first line that is neither a comment nor blank; an indented line does not belong to a statement
unfoldable pub opening : List Line → Parse (Option Line)
opening [] = Ok (None, [])
opening (l ∷ ls) = opening_by (kind_of l) l ls (opening ls)
