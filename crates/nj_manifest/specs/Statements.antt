-- The statements of a text, read from its lines.
use Rattle.std.specs.Prelude.{ℕ, Bool, true, false, ◌&&◌, not, if◌then◌else◌, Option, Some, None, ok_or, option_map, unwrap_or, Ok, Err, List, [], ◌∷◌, find, reverse, codes}
use mathlib.Core.Bool.{beq}
use Rattle.std.specs.List.{list_any}
use Rattle.std.specs.Str.{bytes_eq}
use Rattle.nj_text.specs.declared.sign.Sign.TheVariants as sign
use Rattle.nj_text.specs.declared.spot.Spot.{Spot}
use Rattle.nj_text.specs.Lines.{Line, line_spot, lines_after, Kind, CommentLine, TabLine, BlankLine, IndentedLine}
use Rattle.nj_text.specs.Lines.{PlainLine, kind_of}
use Rattle.nj_text.specs.Words.{WordModel}
use Rattle.nj_text.specs.Calls.{State, Between, Inside, Failed, is_empty, path_word_of, value_of, spot_of, without_comments}
use Rattle.nj_manifest.specs.declared.cause.SyntaxCause.TheVariants as cause
use Rattle.nj_manifest.specs.declared.cause.Wanted.TheVariants as wanted
use Rattle.nj_manifest.specs.declared.block_lines.Keys.{Keys}
use Rattle.nj_manifest.specs.declared.block_lines.Keys.TheVariants as keys
use Rattle.nj_manifest.specs.Faults.{Fault, Placed}
use Rattle.nj_manifest.specs.Openings.{Parse, or_last, without_spaces, opening}
use Rattle.nj_manifest.specs.LineSteps.{Step, ◌>>=◌, called, NameModel, name_next, expect_sign, whole_line, words_next, section_next}

-- ---- block lines

-- `name = value`, at the place of the name
pub record LineModel : Type 0 where
  pub spot : Spot
  pub name : List ℕ
  pub value : WordModel

-- the keys of a rule
abbrev pub rule_keys : List (List ℕ)
rule_keys =
    codes "command" ∷ codes "depfile" ∷ codes "deps" ∷ codes "msvc_deps_prefix" ∷ codes "description" ∷ codes "dyndep"
    ∷ codes "generator" ∷ codes "pool" ∷ codes "restat" ∷ codes "rspfile" ∷ codes "rspfile_content" ∷ []

-- whether a block with the given keys allows a key
abbrev pub allows : Keys → List ℕ → Bool
allows keys.OfRule key = list_any (bytes_eq key) rule_keys
allows keys.OfPool key = bytes_eq key (codes "depth")
allows keys.All key = true

-- `= VALUE`, to the end of the line
unfoldable pub equals_value : State → Step WordModel
equals_value s = do
  equals ← expect_sign sign.Equals wanted.Equals s
  whole_line (called (value_of equals))

-- a line of a block, after its leading spaces
unfoldable pub line_next : Keys → State → Step LineModel
line_next allowed s = do
  key ← name_next wanted.VariableName s
  value ← if allows allowed key.0.name then equals_value key.1 else Err (Placed key.0.spot (cause.UnknownKey key.0.name))
  Ok (record { spot = key.0.spot; name = key.0.name; value = value.0 }, value.1)

-- the lines before which a lexer is
abbrev pub lines_from : State → List Line
lines_from (Between ls) = ls
lines_from (Inside l ls) = l ∷ ls
lines_from (Failed f) = []

-- the lines of a block, by the kind of the next line, and the lines after the block
abbrev pub block_by : Keys → Kind → Line → List Line → Parse (List LineModel) → Parse (List LineModel)
block_by allowed CommentLine l ls others = or_last l (Ok ([], lines_after l (without_comments ls))) others
block_by allowed (TabLine tab) l ls others = Err (Placed tab cause.Tab)
block_by allowed IndentedLine l ls others = do
  line ← line_next allowed (Inside (without_spaces l) ls)
  more ← or_last l (Ok ([], lines_after l ls)) others
  Ok (line.0 ∷ more.0, more.1)
block_by allowed BlankLine l ls others = Ok ([], lines_after l ls)
block_by allowed PlainLine l ls others = Ok ([], l ∷ ls)

-- The lines of a block: the indented lines, and comments among them, up to the first line of another kind. A blank line
-- that ends them is skipped.
unfoldable pub block : Keys → List Line → Parse (List LineModel)
block allowed [] = Ok ([], [])
block allowed (l ∷ ls) = block_by allowed (kind_of l) l ls (block allowed ls)

-- ---- statements

-- the outputs of a `build` statement by kind
pub record OutputsModel : Type 0 where
  pub explicit : List WordModel
  pub implicit : List WordModel

-- the inputs of a `build` statement by kind, and its validations
pub record InputsModel : Type 0 where
  pub explicit : List WordModel
  pub implicit : List WordModel
  pub order_only : List WordModel
  pub validations : List WordModel

-- a statement
pub data StatementModel : Type 0 where
  BindingModel : (name : List ℕ) (value : WordModel) → StatementModel
  RuleModel : (name : NameModel) (lines : List LineModel) → StatementModel
  PoolModel : (name : NameModel) (lines : List LineModel) → StatementModel
  BuildModel : (outputs : OutputsModel) (rule : NameModel) (inputs : InputsModel) (lines : List LineModel) → StatementModel
  DefaultModel : (words : List WordModel) → StatementModel
  IncludeModel : (word : WordModel) → StatementModel
  SubninjaModel : (word : WordModel) → StatementModel

-- a statement at the place of its first byte
pub record PlacedModel : Type 0 where
  pub spot : Spot
  pub item : StatementModel

-- after `build`: `OUTPUTS | IMPLICIT-OUTPUTS`
unfoldable pub outputs_next : State → Step OutputsModel
outputs_next s = do
  explicit ← words_next s
  implicit ← section_next sign.Pipe explicit.1
  if is_empty explicit.0 && is_empty implicit.0
      then Err (Placed (spot_of implicit.1) (cause.Expected wanted.Path))
      else Ok (record { explicit = explicit.0; implicit = implicit.0 }, implicit.1)

-- `INPUTS | IMPLICIT || ORDER-ONLY |@ VALIDATIONS`
unfoldable pub inputs_next : State → Step InputsModel
inputs_next s = do
  explicit ← words_next s
  implicit ← section_next sign.Pipe explicit.1
  order_only ← section_next sign.Pipe2 implicit.1
  validations ← section_next sign.PipeAt order_only.1
  Ok (record { explicit = explicit.0; implicit = implicit.0; order_only = order_only.0; validations = validations.0 }, validations.1)

-- after `default`: the targets
unfoldable pub targets_next : State → Step (List WordModel)
targets_next s = do
  words ← words_next s
  end ← if is_empty words.0 then Err (Placed (spot_of words.1) (cause.Expected wanted.TargetName)) else expect_sign sign.LineEnd wanted.Newline words.1
  Ok (words.0, end)

-- after `include` or `subninja`: the file
unfoldable pub file_next : State → Step WordModel
file_next s = do
  found ← called (path_word_of s)
  word ← ok_or found.0 (Placed (spot_of found.1) (cause.Expected wanted.Path))
  whole_line (Ok (word, found.1))

-- ---- lines that a block needs

-- the line of a name that is in force: the last one
abbrev pub last_line : {X : Type 0} → (name_of : X → List ℕ) → List X → (name : List ℕ) → Option X
last_line name_of lines name = find (λ l. bytes_eq name (name_of l)) (reverse lines)

-- whether the last line of the given key has a value with at least a part
abbrev pub gives : (key : List ℕ) → List LineModel → Bool
gives key lines = unwrap_or (option_map (λ l. not (is_empty l.value.parts)) (last_line (λ l. l.name) lines key)) false

-- ---- statements with a block

-- `rule NAME`, and its block: a rule needs its command, and of the two keys of a response file both or neither
unfoldable pub rule_next : Spot → State → Parse StatementModel
rule_next spot s = do
  name ← whole_line (name_next wanted.RuleName s)
  lines ← block keys.OfRule (lines_from name.1)
  if beq (gives (codes "rspfile") lines.0) (gives (codes "rspfile_content") lines.0)
      then (if gives (codes "command") lines.0 then Ok (RuleModel name.0 lines.0, lines.1) else Err (Placed spot cause.MissingCommand))
      else Err (Placed spot cause.RspPair)

-- `pool NAME`, and its block: a pool needs its depth
unfoldable pub pool_next : Spot → State → Parse StatementModel
pool_next spot s = do
  name ← whole_line (name_next wanted.PoolName s)
  lines ← block keys.OfPool (lines_from name.1)
  if list_any (λ l. bytes_eq l.name (codes "depth")) lines.0 then Ok (PoolModel name.0 lines.0, lines.1) else Err (Placed spot cause.MissingDepth)

-- `build OUTPUTS : RULE INPUTS`, and its block
unfoldable pub build_next : State → Parse StatementModel
build_next s = do
  outputs ← outputs_next s
  colon ← expect_sign sign.Colon wanted.Colon outputs.1
  rule ← name_next wanted.CommandName colon
  inputs ← whole_line (inputs_next rule.1)
  lines ← block keys.All (lines_from inputs.1)
  Ok (BuildModel outputs.0 rule.0 inputs.0 lines.0, lines.1)

-- ---- the next statement

-- a statement of one line
abbrev pub alone : {A : Type 0} → (A → StatementModel) → Step A → Parse StatementModel
alone item step = step >>= λ x. Ok (item x.0, lines_from x.1)

-- the rest of a statement, after the identifier with which it begins; a fault for a missing line is at its start
unfoldable pub statement_after : (word : List ℕ) → Spot → State → Parse StatementModel
statement_after word spot s =
    if bytes_eq word (codes "build") then build_next s
    else (if bytes_eq word (codes "rule") then rule_next spot s
    else (if bytes_eq word (codes "pool") then pool_next spot s
    else (if bytes_eq word (codes "default") then alone DefaultModel (targets_next s)
    else (if bytes_eq word (codes "include") then alone IncludeModel (file_next s)
    else (if bytes_eq word (codes "subninja") then alone SubninjaModel (file_next s)
    else alone (BindingModel word) (equals_value s))))))

-- the statement on the first line that is neither blank nor a comment, and the lines after it; `None` at the text's end
abbrev pub statement_from : Option Line × List Line → Parse (Option PlacedModel)
statement_from (Some l, ls) = do
  word ← name_next wanted.Statement (Inside l ls)
  item ← statement_after word.0.name (line_spot l) word.1
  Ok (Some (record { spot = line_spot l; item = item.0 }), item.1)
statement_from (None, ls) = Ok (None, ls)

-- the next statement of the lines, if any, and the lines after it
unfoldable pub next_statement : List Line → Parse (Option PlacedModel)
next_statement ls = opening ls >>= statement_from

-- ---- a parser

-- The rest before a parser: lines; or the fault that it returns permanently.
pub data Left : Type 0 where
  Lines : (lines : List Line) → Left
  Refused : (fault : Fault) → Left
