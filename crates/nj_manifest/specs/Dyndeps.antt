-- Dyndep files ("Dyndep file reference" in the Ninja manual): the version, and then a statement for each entry.
use Rattle.std.specs.Prelude.{ℕ, Bool, true, false, ◌&&◌, not, ◌==◌, if◌then◌else◌, Option, Some, None, Result, Ok, Err, List, codes}
use Rattle.std.specs.Option.{option_map_or}
use Rattle.std.specs.Str.{bytes_eq}
use Rattle.nj_text.specs.declared.sign.Sign.{Sign}
use Rattle.nj_text.specs.declared.sign.Sign.TheVariants as sign
use Rattle.nj_text.specs.declared.line_start.LineStart.{LineStart}
use Rattle.nj_text.specs.declared.line_start.LineStart.TheVariants as start
use Rattle.nj_text.specs.declared.spot.Spot.{Spot}
use Rattle.nj_text.specs.Numbers.{version_pair_of}
use Rattle.nj_text.specs.Lines.{Line}
use Rattle.nj_text.specs.Words.{WordModel}
use Rattle.nj_text.specs.Calls.{State, Reply, Inside, start_line_of, skip_blanks_of, sign_of, path_word_of, spot_of}
use Rattle.nj_text.specs.Calls.{fault_spot, first_line_spot, is_empty}
use Rattle.nj_manifest.specs.declared.cause.SyntaxCause.TheVariants as cause
use Rattle.nj_manifest.specs.declared.cause.Wanted.{Wanted}
use Rattle.nj_manifest.specs.declared.cause.Wanted.TheVariants as wanted
use Rattle.nj_manifest.specs.Faults.{Fault, Placed, bad_unit}
use Rattle.nj_manifest.specs.LineSteps.{Step, ◌>>=◌, called, name_next, expect_sign, whole_line, section_next}
use Rattle.nj_manifest.specs.Expansion.{expanded, no_values}
use Rattle.nj_manifest.specs.Statements.{lines_from, equals_value}
use Rattle.nj_manifest.specs.Openings.{Parse, opening}

-- ---- the version

-- major 1 and minor 0, whatever follows these numbers
abbrev pub is_first_version : ℕ × ℕ → Bool
is_first_version version = version.0 == 1 && version.1 == 0

-- `ninja_dyndep_version = 1`
unfoldable pub version_line : State → Result State Fault
version_line s = do
  name ← name_next wanted.Statement s
  value ← if bytes_eq name.0.name (codes "ninja_dyndep_version") then equals_value name.1 else Err (Placed name.0.spot cause.DyndepVersion)
  if is_first_version (version_pair_of (expanded no_values value.0.parts)) then Ok value.1 else Err (Placed name.0.spot cause.DyndepVersion)

-- the version on the first line that is neither blank nor a comment, and the lines after it; a text without such a line
-- has no version
abbrev pub version_from : Option Line × List Line → Result (List Line) Fault
version_from (Some l, ls) = version_line (Inside l ls) >>= λ end. Ok (lines_from end)
version_from (None, ls) = Err (Placed (first_line_spot ls) cause.DyndepVersion)

-- the lines after the version, with which a dyndep file begins
unfoldable pub version_next : List Line → Result (List Line) Fault
version_next ls = opening ls >>= version_from

-- ---- an entry

-- the output that names a build statement, the additional outputs and inputs of that statement, and whether the entry's block
-- gives `restat` a value that is not empty
pub record EntryModel : Type 0 where
  pub out : WordModel
  pub outs : List WordModel
  pub ins : List WordModel
  pub restat : Bool

-- the given identifier; any other departs from the form
unfoldable pub word_of_form : (word : List ℕ) → Wanted → State → Result State Fault
word_of_form word wanted s = do
  name ← name_next wanted s
  if bytes_eq name.0.name word then Ok name.1 else Err (Placed name.0.spot cause.DyndepShape)

-- two places are the same
abbrev pub is_same_spot : Spot → Spot → Bool
is_same_spot a b = a.line == b.line && a.column == b.column

-- whether a path is here, by the result of reading a path here
abbrev pub no_path_by : Spot → Reply (Option WordModel) → Result State Fault
no_path_by spot (Ok (None, after)) = Ok after
no_path_by spot (Ok (Some word, after)) = Err (Placed spot cause.DyndepShape)
no_path_by spot (Err unit) = if is_same_spot (fault_spot unit) spot then Err (bad_unit unit) else Err (Placed spot cause.DyndepShape)

-- There is no path here. A path here departs from the form at its first unit, whether or not a bad unit breaks it later.
unfoldable pub no_path : State → Result State Fault
no_path s = let here = skip_blanks_of s in no_path_by (spot_of here) (path_word_of here)

-- no section begins here with the given sign
unfoldable pub no_section : Sign → State → Result State Fault
no_section want s = do
  there ← called (sign_of want (skip_blanks_of s))
  if not there.0 then Ok there.1 else Err (Placed (spot_of (skip_blanks_of s)) cause.DyndepShape)

-- After `build`: the one explicit output. Without it, implicit outputs depart from the form at their `|`.
unfoldable pub output_next : State → Step WordModel
output_next s = do
  found ← called (path_word_of s)
  out ← option_map_or Ok found.0 (called (sign_of sign.Pipe found.1) >>= λ pipe.
      Err (if pipe.0 then Placed (spot_of found.1) cause.DyndepShape else Placed (spot_of found.1) (cause.Expected wanted.Path)))
  end ← no_path found.1
  Ok (out, end)

-- after the rule's name: no explicit inputs, and of the other sections only the implicit inputs
unfoldable pub added_inputs : State → Step (List WordModel)
added_inputs s = do
  alone ← no_path s
  ins ← section_next sign.Pipe alone
  order_only ← no_section sign.Pipe2 ins.1
  validations ← no_section sign.PipeAt order_only
  whole_line (Ok (ins.0, validations))

-- `build OUTPUT | OUTPUTS: dyndep | INPUTS`, before the block
unfoldable pub entry_line : State → Step EntryModel
entry_line s = do
  build ← word_of_form (codes "build") wanted.Statement s
  out ← output_next build
  outs ← section_next sign.Pipe out.1
  colon ← expect_sign sign.Colon wanted.Colon outs.1
  rule ← word_of_form (codes "dyndep") wanted.CommandName colon
  ins ← added_inputs rule
  Ok (record { out = out.0; outs = outs.0; ins = ins.0; restat = false }, ins.1)

-- a value that is not empty, with each reference in it empty
abbrev pub has_text : WordModel → Bool
has_text value = not (is_empty (expanded no_values value.parts))

-- what follows if the line is indented; else the block has ended
abbrev pub if_indented : (bound : Bool) → LineStart → State → (indented : State → Step Bool) → Step Bool
if_indented bound start.Indented s indented = indented s
if_indented bound other s indented = Ok (bound, s)

-- the reading of the next line of a block; where the block ends, what it has bound so far
abbrev pub in_block : (bound : Bool) → State → (line : State → Step Bool) → Step Bool
in_block bound s line = called (start_line_of s) >>= λ first. if_indented bound first.0 first.1 line

-- The block, at most `restat = VALUE`: whether its value is not empty. A second line departs from the form at its key.
unfoldable pub restat_block : State → Step Bool
restat_block s = in_block false s (λ line. do
  key ← word_of_form (codes "restat") wanted.VariableName line
  value ← equals_value key
  in_block (has_text value.0) value.1 (λ extra. name_next wanted.VariableName extra >>= λ name. Err (Placed name.0.spot cause.DyndepShape)))

-- the entry on the first line that is neither blank nor a comment, and the lines after it; `None` at the text's end
abbrev pub entry_from : Option Line × List Line → Parse (Option EntryModel)
entry_from (Some l, ls) = do
  entry ← entry_line (Inside l ls)
  block ← restat_block entry.1
  Ok (Some (record entry.0 { restat = block.0 }), lines_from block.1)
entry_from (None, ls) = Ok (None, ls)

-- the next entry of the lines, if any, and the lines after it
unfoldable pub next_entry : List Line → Parse (Option EntryModel)
next_entry ls = opening ls >>= entry_from

-- ---- a parser

-- The rest before a parser: all lines, the version first; lines after the version; or the fault that it returns
-- permanently.
pub data DyndepLeft : Type 0 where
  WholeFile : (lines : List Line) → DyndepLeft
  Entries : (lines : List Line) → DyndepLeft
  Refusing : (fault : Fault) → DyndepLeft

-- the next entry, after the version if that was not read yet
abbrev pub left_entry : (version_read : Bool) → List Line → Parse (Option EntryModel)
left_entry true ls = next_entry ls
left_entry false ls = version_next ls >>= next_entry

-- the next entry of what is left
abbrev pub entry_of : DyndepLeft → Parse (Option EntryModel)
entry_of (WholeFile ls) = left_entry false ls
entry_of (Entries ls) = left_entry true ls
entry_of (Refusing fault) = Err fault
