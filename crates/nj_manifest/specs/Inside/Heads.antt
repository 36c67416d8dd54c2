-- A statement in two steps, as the code reads it: its first line, and then its block.
use Rattle.std.specs.Prelude.{ℕ, Bool, if◌then◌else◌, Option, Some, Result, Ok, Err, List, codes}
use mathlib.Core.Bool.{beq}
use Rattle.std.specs.List.{list_any}
use Rattle.std.specs.Str.{bytes_eq}
use Rattle.nj_text.specs.declared.sign.Sign.TheVariants as sign
use Rattle.nj_text.specs.declared.spot.Spot.{Spot}
use Rattle.nj_text.specs.Lines.{Line, line_spot}
use Rattle.nj_text.specs.Calls.{State, Inside}
use Rattle.nj_manifest.specs.declared.cause.SyntaxCause.TheVariants as cause
use Rattle.nj_manifest.specs.declared.cause.Wanted.TheVariants as wanted
use Rattle.nj_manifest.specs.declared.block_lines.Keys.TheVariants as keys
use Rattle.nj_manifest.specs.Faults.{Fault, Placed}
use Rattle.nj_manifest.specs.LineSteps.{Step, ◌>>=◌, NameModel, name_next, expect_sign, whole_line}
use Rattle.nj_manifest.specs.Openings.{Parse}
use Rattle.nj_manifest.specs.Statements.{LineModel, equals_value, lines_from, block, StatementModel, BindingModel, RuleModel, PoolModel, BuildModel, DefaultModel, IncludeModel, SubninjaModel}
use Rattle.nj_manifest.specs.Statements.{PlacedModel, outputs_next, inputs_next, targets_next, file_next, gives}
use Rattle.nj_manifest.specs.Grammar.{HeadModel, Alone, RuleHead, PoolHead, BuildHead}

-- ---- the first line

-- after `rule` or `pool`: a name and the end of the line
unfoldable pub name_alone : wanted.the_data → State → Step NameModel
name_alone want s = whole_line (name_next want s)

-- `OUTPUTS : RULE INPUTS`
unfoldable pub build_head : State → Step HeadModel
build_head s = do
  outputs ← outputs_next s
  colon ← expect_sign sign.Colon wanted.Colon outputs.1
  rule ← name_next wanted.CommandName colon
  inputs ← inputs_next rule.1
  end ← expect_sign sign.LineEnd wanted.Newline inputs.1
  Ok (BuildHead outputs.0 rule.0 inputs.0, end)

abbrev pub as_head : {A : Type 0} → (A → HeadModel) → Step A → Step HeadModel
as_head head step = step >>= λ x. Ok (head x.0, x.1)

-- the rest of a first line, after the identifier with which a statement begins
unfoldable pub head_after : (word : List ℕ) → State → Step HeadModel
head_after word s =
    if bytes_eq word (codes "build") then build_head s
    else (if bytes_eq word (codes "rule") then as_head RuleHead (name_alone wanted.RuleName s)
    else (if bytes_eq word (codes "pool") then as_head PoolHead (name_alone wanted.PoolName s)
    else (if bytes_eq word (codes "default") then as_head (λ words. Alone (DefaultModel words)) (targets_next s)
    else (if bytes_eq word (codes "include") then as_head (λ word. Alone (IncludeModel word)) (file_next s)
    else (if bytes_eq word (codes "subninja") then as_head (λ word. Alone (SubninjaModel word)) (file_next s)
    else as_head (λ value. Alone (BindingModel word value)) (equals_value s))))))

-- the first line of a statement
unfoldable pub head_next : State → Step HeadModel
head_next s = do
  word ← name_next wanted.Statement s
  head_after word.0.name word.1

-- ---- the block

-- a rule needs its command, and of the two keys of a response file both or neither
unfoldable pub whole_rule : Spot → List LineModel → Result (List LineModel) Fault
whole_rule spot lines =
    if beq (gives (codes "rspfile") lines) (gives (codes "rspfile_content") lines)
    then (if gives (codes "command") lines then Ok lines else Err (Placed spot cause.MissingCommand))
    else Err (Placed spot cause.RspPair)

-- whether a line has this key
abbrev pub names : (key : List ℕ) → List LineModel → Bool
names key ls = list_any (λ l. bytes_eq l.name key) ls

-- a pool needs its depth
unfoldable pub whole_pool : Spot → List LineModel → Result (List LineModel) Fault
whole_pool spot lines = if names (codes "depth") lines then Ok lines else Err (Placed spot cause.MissingDepth)

-- a statement with its block
abbrev pub with_block : Spot → HeadModel → List Line → Parse StatementModel
with_block spot (Alone item) ls = Ok (item, ls)
with_block spot (RuleHead name) ls = do
  lines ← block keys.OfRule ls
  whole ← whole_rule spot lines.0
  Ok (RuleModel name whole, lines.1)
with_block spot (PoolHead name) ls = do
  lines ← block keys.OfPool ls
  whole ← whole_pool spot lines.0
  Ok (PoolModel name whole, lines.1)
with_block spot (BuildHead outputs rule inputs) ls = do
  lines ← block keys.All ls
  Ok (BuildModel outputs rule inputs lines.0, lines.1)

-- the statement whose first line begins here
unfoldable pub statement_here : Line → List Line → Parse (Option PlacedModel)
statement_here l ls = do
  head ← head_next (Inside l ls)
  item ← with_block (line_spot l) head.0 (lines_from head.1)
  Ok (Some (record { spot = line_spot l; item = item.0 }), item.1)
