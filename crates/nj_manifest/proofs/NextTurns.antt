-- The next statement of lines, line by line, and a statement by its first line and its block.
use Rattle.std.proofs.Common.{arith, ◌≡◌, ℕ, Bool, true, false, cond, Option, Some, None, Result, Ok, Err}
use Rattle.std.proofs.Common.{List, []}
use Rattle.std.proofs.Common.{◌∷◌, refl, ap, ◌∙◌, codes}
use mathlib.Core.Bool.{beq}
use Rattle.std.specs.Str.{bytes_eq}
use Rattle.nj_text.specs.declared.sign.Sign.TheVariants as sign
use Rattle.nj_text.specs.declared.spot.Spot.{Spot}
use Rattle.nj_text.specs.Lines.{Line, line_spot, lines_after, Kind, CommentLine, TabLine, BlankLine}
use Rattle.nj_text.specs.Lines.{IndentedLine, PlainLine, kind_of}
use Rattle.nj_text.specs.Calls.{State, Inside, without_comments}
use Rattle.nj_manifest.specs.declared.cause.SyntaxCause.TheVariants as cause
use Rattle.nj_manifest.specs.declared.cause.Wanted.TheVariants as wanted
use Rattle.nj_manifest.specs.declared.block_lines.Keys.TheVariants as keys
use Rattle.nj_manifest.specs.Faults.{Fault, Placed}
use Rattle.nj_manifest.specs.LineSteps.{Step, ◌>>=◌, NameModel, name_next, expect_sign, whole_line}
use Rattle.nj_manifest.specs.Openings.{Parse, or_last, front_of, opening_by, opening}
use Rattle.nj_manifest.specs.Statements.{LineModel, lines_from, block, OutputsModel, InputsModel}
use Rattle.nj_manifest.specs.Statements.{StatementModel, RuleModel, PoolModel, BuildModel, BindingModel}
use Rattle.nj_manifest.specs.Statements.{DefaultModel, IncludeModel, SubninjaModel, PlacedModel, equals_value}
use Rattle.nj_manifest.specs.Statements.{outputs_next, inputs_next}
use Rattle.nj_manifest.specs.Statements.{targets_next, file_next, gives, rule_next, pool_next, build_next}
use Rattle.nj_manifest.specs.Statements.{alone, statement_after, statement_from, next_statement}
use Rattle.nj_manifest.specs.Grammar.{HeadModel, Alone, RuleHead, PoolHead, BuildHead}
use Rattle.nj_manifest.specs.Inside.Heads.{build_head, as_head, head_after, head_next, whole_rule, whole_pool}
use Rattle.nj_manifest.specs.Inside.Heads.{with_block, statement_here, name_alone, names}
use Rattle.nj_manifest.proofs.Choices.{ended}

-- ---- two steps

-- the use of a reading, in one step or in two
in_two : {A B C : Type 0} (r : Result A Fault) (k : A → Result B Fault) (j : B → Result C Fault)
    (m : A → Result C Fault) → ((x : A) → m x ≡ (k x >>= j)) → (r >>= m) ≡ ((r >>= k) >>= j)
in_two r k j m h = grind arith

-- the statement after its first line
abbrev with_lines : Spot → HeadModel × State → Parse StatementModel
with_lines spot head = with_block spot head.0 (lines_from head.1)

rule-steps : (spot : Spot) (s : State) → rule_next spot s
    ≡ (as_head RuleHead (name_alone wanted.RuleName s) >>= with_lines spot)
unfolding rule_next whole_rule name_alone
rule-steps spot s = grind arith

pool-steps : (spot : Spot) (s : State) → pool_next spot s
    ≡ (as_head PoolHead (name_alone wanted.PoolName s) >>= with_lines spot)
unfolding pool_next whole_pool name_alone
pool-steps spot s = grind arith

build-steps : (spot : Spot) (s : State) → build_next s ≡ (build_head s >>= with_lines spot)
unfolding build_next build_head
build-steps spot s = grind arith

alone-steps : {A : Type 0} (spot : Spot) (item : A → StatementModel) (r : Step A)
    → alone item r ≡ (as_head (λ x. Alone (item x)) r >>= with_lines spot)
alone-steps spot item r = grind arith

after-steps : (word : List ℕ) (spot : Spot) (s : State)
    → statement_after word spot s ≡ (head_after word s >>= with_lines spot)
unfolding statement_after head_after
after-steps word spot s = grind (arith, codes, build-steps, rule-steps, pool-steps, alone-steps)

-- A statement is its first line, and then its block.
pub statement-steps : (l : Line) (ls : List Line) → statement_from (Some l, ls) ≡ statement_here l ls
unfolding statement_here head_next
statement-steps l ls = grind (arith, after-steps)

-- ---- line by line

-- the end of the lines
abbrev pub nothing_more : List Line → Parse (Option PlacedModel)
nothing_more rest = Ok (None, rest)

-- the next statement at a line of the given kind, given the next statement after it
abbrev pub next_by : Kind → Line → List Line → Parse (Option PlacedModel) → Parse (Option PlacedModel)
next_by CommentLine l ls others = or_last l (nothing_more (lines_after l (without_comments ls))) others
next_by (TabLine tab) l ls others = Err (Placed tab cause.Tab)
next_by IndentedLine l ls others = Err (Placed (front_of l) cause.UnexpectedIndent)
next_by BlankLine l ls others = or_last l (nothing_more (lines_after l ls)) others
next_by PlainLine l ls others = statement_here l ls

pub next-nothing : next_statement [] ≡ nothing_more []
unfolding next_statement opening
next-nothing = refl

pub next-line : (l : Line) (ls : List Line)
    → next_statement (l ∷ ls) ≡ next_by (kind_of l) l ls (next_statement ls)
unfolding next_statement opening
next-line l ls = grind (arith, ended, statement-steps)

pub next-kind : (l : Line) (ls : List Line) (k : Kind) → kind_of l ≡ k
    → next_statement (l ∷ ls) ≡ next_by k l ls (next_statement ls)
next-kind l ls k h = next-line l ls ∙ ap (λ (q : Kind). next_by q l ls (next_statement ls)) h
