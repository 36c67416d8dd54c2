-- Each statement takes at least a line, and a text has at most as many lines as bytes.
use Rattle.std.proofs.Common.{◌≡◌, ℕ, zero, suc, ◌<◌, ◌≤◌, Bool, false, Option, Some}
use Rattle.std.proofs.Common.{Result, Ok, List, [], ◌∷◌, length, take, refl, sym, ap, subst, ◌∙◌, arith}
use Rattle.nj_text.specs.declared.spot.Spot.{Spot}
use Rattle.nj_text.specs.Units.{TextUnit, Position, found_at, position_after, spot_after, cut}
use Rattle.nj_text.specs.Lines.{Line, ending_of, lines_before, lines_of, text_lines, line_spot}
use Rattle.nj_text.specs.Lines.{lines_after, Kind, PlainLine}
use Rattle.nj_text.specs.Lines.{kind_of}
use Rattle.nj_text.specs.Calls.{Inside, is_empty, without_comments}
use Rattle.nj_manifest.specs.declared.block_lines.Keys.{Keys}
use Rattle.nj_manifest.specs.declared.block_lines.Keys.TheVariants as keys
use Rattle.nj_manifest.specs.Faults.{Fault}
use Rattle.nj_manifest.specs.LineSteps.{◌>>=◌}
use Rattle.nj_manifest.specs.Statements.{LineModel, lines_from, block_by, block, PlacedModel}
use Rattle.nj_manifest.specs.Statements.{RuleModel, PoolModel, next_statement}
use Rattle.nj_manifest.specs.Grammar.{HeadModel, Alone, RuleHead, PoolHead, BuildHead}
use Rattle.nj_manifest.specs.Openings.{Parse, or_last}
use Rattle.nj_manifest.specs.Inside.Heads.{head_next, whole_rule, whole_pool, with_block, statement_here}
use Rattle.nj_manifest.proofs.NextTurns.{nothing_more, next_by, next-nothing, next-line}
use Rattle.nj_manifest.proofs.Framing.{head-inside}
use Rattle.nj_manifest.proofs.Starts.{ahead}

-- ---- readings

bind-ok : {A B : Type 0} (r : Result A Fault) (k : A → Result B Fault) (y : B) → (r >>= k) ≡ Ok y
    → (x : A) × (r ≡ Ok x) × (k x ≡ Ok y)
bind-ok r k y h = grind arith

rest-is : {A : Type 0} (x y : A) (r rest : List Line) → ◌≡◌ {A = Parse A} (Ok (x, r)) (Ok (y, rest))
    → r ≡ rest
rest-is {A} x y r rest h = grind arith

-- the end of the lines is not a statement
no_statement : {A : Type 0} (ended : List Line) (s : PlacedModel) (rest : List Line)
    → nothing_more ended ≡ Ok (Some s, rest) → A
no_statement ended s rest h = grind arith

-- ---- after a line

no_fewer : (l : Line) (ls : List Line) → ahead (lines_after l ls) ≤ ahead (l ∷ ls)
no_fewer l ls = grind arith

fewer : (l : Line) (ls : List Line) → is_empty l.units ≡ false → ahead (lines_after l ls) < ahead (l ∷ ls)
fewer l ls h = grind arith

-- a plain line has units
plain-units : (l : Line) → kind_of l ≡ PlainLine → is_empty l.units ≡ false
plain-units l h = grind arith

-- ---- a block

-- a reading of lines, without its value, does not leave more lines
abbrev Within : {A : Type 0} → List Line → Parse A → Type 0
Within {A} ls reading = (x : A) (rest : List Line) → reading ≡ Ok (x, rest) → ahead rest ≤ ahead ls

comment-within : {A : Type 0} (l : Line) (ls : List Line) (x : A) (others : Parse A) → Within ls others
    → Within (l ∷ ls) (or_last l (Ok (x, lines_after l (without_comments ls))) others)
comment-within {A} l ls x others ih = grind arith

line-within : {A : Type 0} (l : Line) (ls : List Line) (x : A) (others : Parse A) → Within ls others
    → Within (l ∷ ls) (or_last l (Ok (x, lines_after l ls)) others)
line-within {A} l ls x others ih = grind arith

block-kind : (allowed : Keys) (k : Kind) (l : Line) (ls : List Line) → Within ls (block allowed ls)
    → Within (l ∷ ls) (block_by allowed k l ls (block allowed ls))
block-kind allowed k l ls ih = grind arith

block-within : (allowed : Keys) (ls : List Line) → Within ls (block allowed ls)
unfolding block
block-within allowed [] = λ x rest h. rw (sym (rest-is [] x [] rest h)) (omega arith)
block-within allowed (l ∷ ls) = block-kind allowed (kind_of l) l ls (block-within allowed ls)

-- ---- a statement

block-then : {B C : Type 0} (allowed : Keys) (ls : List Line) (check : List LineModel → Result B Fault)
    (made : B → C) → Within ls (block allowed ls >>=
    λ lines. (check lines.0 >>= λ whole. Ok (made whole, lines.1)))
block-then allowed ls check made = λ x rest h.
    let lines = bind-ok (block allowed ls) _ (x, rest) h in
    let whole = bind-ok (check lines.0.0) _ (x, rest) lines.2 in
    subst (λ r. ahead r ≤ ahead ls) (rest-is _ x lines.0.1 rest whole.2)
    (block-within allowed ls lines.0.0 lines.0.1 lines.1)

with_block-within : (spot : Spot) (head : HeadModel) (ls : List Line) → Within ls (with_block spot head ls)
with_block-within spot (Alone item) ls = λ x rest h. rw (sym (rest-is item x ls rest h)) (omega arith)
with_block-within spot (RuleHead name) ls = block-then keys.OfRule ls (whole_rule spot) (RuleModel name)
with_block-within spot (PoolHead name) ls = block-then keys.OfPool ls (whole_pool spot) (PoolModel name)
with_block-within spot (BuildHead outputs rule inputs) ls = λ x rest h.
    let lines = bind-ok (block keys.All ls) _ (x, rest) h in
    subst (λ r. ahead r ≤ ahead ls) (rest-is _ x lines.0.1 rest lines.2)
    (block-within keys.All ls lines.0.0 lines.0.1 lines.1)

statement-takes : (l : Line) (ls : List Line) (s : PlacedModel) (rest : List Line) → kind_of l ≡ PlainLine
    → statement_here l ls ≡ Ok (Some s, rest) → ahead rest < ahead (l ∷ ls)
unfolding statement_here
statement-takes l ls s rest e h =
    let head = bind-ok (head_next (Inside l ls)) _ (Some s, rest) h in
    let item = bind-ok (with_block (line_spot l) head.0.0 (lines_from head.0.1)) _ (Some s, rest) head.2 in
    let there = head-inside l ls head.0.0 head.0.1 head.1 in
    let remainder : ahead item.0.1 ≤ ahead (lines_from head.0.1) =
    with_block-within (line_spot l) head.0.0 (lines_from head.0.1) item.0.0 item.0.1 item.1 in
    let same : ahead (lines_from head.0.1) ≡ ahead (lines_after l ls) = ap (λ s. ahead (lines_from s)) there
    in
    let last : ahead item.0.1 ≡ ahead rest = ap ahead (rest-is _ (Some s) item.0.1 rest item.2) in
    let taken = fewer l ls (plain-units l e) in
    omega arith

-- a reading that finds a statement leaves fewer lines
abbrev Takes : List Line → Parse (Option PlacedModel) → Type 0
Takes ls reading = (s : PlacedModel) (rest : List Line) → reading ≡ Ok (Some s, rest) → ahead rest < ahead ls

last-takes : (l : Line) (ls : List Line) (rest : List Line) (others : Parse (Option PlacedModel))
    → Takes ls others → Takes (l ∷ ls) (or_last l (nothing_more rest) others)
last-takes l ls rest others ih = grind arith

kind-takes : (k : Kind) (l : Line) (ls : List Line) → kind_of l ≡ k → Takes ls (next_statement ls)
    → Takes (l ∷ ls) (next_by k l ls (next_statement ls))
kind-takes k l ls e ih = grind (arith, last-takes, statement-takes)

-- A statement takes at least a line.
pub statement_takes : (ls : List Line) (s : PlacedModel) (rest : List Line)
    → next_statement ls ≡ Ok (Some s, rest) → ahead rest < ahead ls
statement_takes [] = λ s rest h. no_statement [] s rest (sym next-nothing ∙ h)
statement_takes (l ∷ ls) = λ s rest h. kind-takes (kind_of l) l ls refl (statement_takes ls) s rest
    (sym (next-line l ls) ∙ h)

-- ---- the lines of a text

unit-lines : (ending : Option Bool) (u : TextUnit) (ls : List Line)
    → ahead (lines_before ending u ls) ≤ suc (ahead ls)
unit-lines ending u ls = grind arith

cut-lines : (position : Position) (skip : ℕ) (spot : Spot) (bs : List ℕ)
    → ahead (lines_of (cut position skip spot bs)) ≤ length bs
unfolding cut
cut-lines position skip spot [] = omega arith
cut-lines position zero spot (b ∷ bs) =
    let found = found_at position b bs in
    let others = cut (position_after position found.0) found.1 (spot_after b spot) bs in
    let more = cut-lines (position_after position found.0) found.1 (spot_after b spot) bs in
    let one = unit-lines (ending_of found.0)
    (record { spot = spot; bytes = b ∷ take found.1 bs; means = found.0 }) (lines_of others) in
    omega arith
cut-lines position (suc skip) spot (b ∷ bs) = grind (arith, cut-lines position skip (spot_after b spot) bs)

-- A text has at most as many lines with units as bytes.
pub text_has_bytes : (text : List ℕ) → ahead (text_lines text) ≤ length text
text_has_bytes text = cut-lines _ 0 _ text
