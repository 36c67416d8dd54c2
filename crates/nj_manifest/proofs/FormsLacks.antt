-- Missing lines of rules and pools: the faults that are read, and the forms of the grammar.
use Rattle.std.proofs.Common.{arith, ◌≡◌, Bool, true, false, Result, Ok, Err, List, [], ◌∷◌, refl, sym}
use Rattle.std.proofs.Common.{ap}
use Rattle.std.proofs.Common.{subst, ◌∙◌, codes}
use mathlib.Core.Bool.{beq}
use Rattle.std.specs.Prelude.{◌↔◌}
use Rattle.std.specs.List.{list_any}
use Rattle.std.specs.Str.{bytes_eq}
use Rattle.nj_text.specs.declared.spot.Spot.{Spot}
use Rattle.nj_text.specs.Lines.{Line, line_spot, lines_after, Kind, CommentLine, TabLine, BlankLine}
use Rattle.nj_text.specs.Lines.{IndentedLine, PlainLine, kind_of}
use Rattle.nj_text.specs.Calls.{Between, without_comments}
use Rattle.nj_manifest.specs.declared.cause.SyntaxCause.TheVariants as cause
use Rattle.nj_manifest.specs.declared.block_lines.Keys.{Keys}
use Rattle.nj_manifest.specs.declared.block_lines.Keys.TheVariants as keys
use Rattle.nj_manifest.specs.Faults.{Fault, Placed, is_syntax}
use Rattle.nj_manifest.specs.LineSteps.{◌>>=◌, NameModel}
use Rattle.nj_manifest.specs.Statements.{LineModel, StatementModel, RuleModel, PoolModel, BuildModel, gives}
use Rattle.nj_manifest.specs.Statements.{block, next_statement}
use Rattle.nj_manifest.specs.Grammar.{BlockForm, Gives, LackForm, NextLacks, HeadModel, Alone, RuleHead}
use Rattle.nj_manifest.specs.Grammar.{PoolHead, BuildHead}
use Rattle.nj_manifest.specs.Laws.{MissingLinesAreLacking}
use Rattle.nj_manifest.specs.Leftmost.{NamesThePlaceOf}
use Rattle.nj_manifest.specs.Openings.{Parse, front_of}
use Rattle.nj_manifest.specs.Inside.Heads.{whole_rule, whole_pool, with_block, names}
use Rattle.nj_manifest.proofs.NextTurns.{nothing_more, next-nothing, next-kind}
use Rattle.nj_manifest.proofs.Choices.{unless_missing}
use Rattle.nj_manifest.proofs.FormsLines.{head-form, head-read}
use Rattle.nj_manifest.proofs.FormsBlocks.{block-form, block-read}
use Rattle.nj_manifest.proofs.FormsKeys.{gives-form, gives-read, agree-forms, forms-agree}
use Rattle.nj_manifest.proofs.LeftmostSteps.{Outcome, stuck, through}
use Rattle.nj_manifest.proofs.LeftmostBlocks.{block_stuck}
use Rattle.nj_manifest.proofs.LeftmostStatements.{Plain, head_outcome, plain_bad, plain_read, placed_bad}
use Rattle.nj_manifest.proofs.LeftmostStatements.{placed_fault, same_fault, not_last, nothing_no_fault}

-- ---- faults of lines are faults of syntax

no_syntax : {P : Type 0} (f : Fault) → is_syntax f ≡ true → is_syntax f ≡ false → P
no_syntax f h n = grind arith

names_syntax : (f : Fault) (l : Line) → NamesThePlaceOf f l → is_syntax f ≡ true
names_syntax f l h = grind arith

block_syntax : {P : Type 0} (allowed : Keys) (ls : List Line) (f : Fault) → block allowed ls ≡ Err f
    → is_syntax f ≡ false → P
block_syntax allowed ls f h n =
    let s = block_stuck allowed ls f h in
    no_syntax f (names_syntax f s.line s.place) n

-- ---- a block that lacks a line

abbrev rsp_agree : List LineModel → Bool
rsp_agree lines = beq (gives (codes "rspfile") lines) (gives (codes "rspfile_content") lines)

abbrev Pair : List LineModel → Type 0
Pair lines = Gives (codes "rspfile") lines ↔ Gives (codes "rspfile_content") lines

false_is_true : {P : Type 0} (t : Bool) → t ≡ false → t ≡ true → P
false_is_true t f h = grind arith

pair_agrees : (lines : List LineModel) → Pair lines → rsp_agree lines ≡ true
pair_agrees lines p = grind (arith, forms-agree, codes, gives-read, gives-form)

agrees_pair : (lines : List LineModel) → rsp_agree lines ≡ true → Pair lines
agrees_pair lines h = grind (arith, agree-forms, codes, gives-form, gives-read)

errs : {A : Type 0} {x y : Fault} → ◌≡◌ {A = Result A Fault} (Err x) (Err y) → x ≡ y
errs e = cc

no_err : {A P : Type 0} {x : A} {f : Fault} → ◌≡◌ {A = Result A Fault} (Ok x) (Err f) → P
no_err e = absurd cc

rule-lacks : (spot : Spot) (name : NameModel) (ls rest : List Line) (lines : List LineModel) (f : Fault)
    → BlockForm keys.OfRule ls lines rest → ◌≡◌ {A = Parse StatementModel}
    (whole_rule spot lines >>= λ whole. Ok (RuleModel name whole, rest)) (Err f)
    → LackForm spot (RuleHead name) ls f
unfolding whole_rule
rule-lacks spot name ls rest lines f b h = by_pair (rsp_agree lines) refl h
  where
    then : Result (List LineModel) Fault → Parse StatementModel
    then r = r >>= λ whole. Ok (RuleModel name whole, rest)

    by_command : (t : Bool) → gives (codes "command") lines ≡ t → rsp_agree lines ≡ true
        → then (unless_missing t (Placed spot cause.MissingCommand) (Ok lines)) ≡ Err f
        → LackForm spot (RuleHead name) ls f
    by_command true c p g = no_err g
    by_command false c p g = subst (λ (x : Fault). LackForm spot (RuleHead name) ls x) (errs g)
        (LackForm.command b (agrees_pair lines p)
        (λ given. false_is_true _ c (gives-read (codes "command") lines given)))

    by_pair : (t : Bool) → rsp_agree lines ≡ t
        → then (unless_missing t (Placed spot cause.RspPair)
        (unless_missing (gives (codes "command") lines) (Placed spot cause.MissingCommand) (Ok lines)))
        ≡ Err f → LackForm spot (RuleHead name) ls f
    by_pair true p g = by_command (gives (codes "command") lines) refl p g
    by_pair false p g = subst (λ (x : Fault). LackForm spot (RuleHead name) ls x) (errs g)
        (LackForm.pair b (λ both. false_is_true _ p (pair_agrees lines both)))

pool-lacks : (spot : Spot) (name : NameModel) (ls rest : List Line) (lines : List LineModel) (f : Fault)
    → BlockForm keys.OfPool ls lines rest → ◌≡◌ {A = Parse StatementModel}
    (whole_pool spot lines >>= λ whole. Ok (PoolModel name whole, rest)) (Err f)
    → LackForm spot (PoolHead name) ls f
unfolding whole_pool
pool-lacks spot name ls rest lines f b h = by_depth (names (codes "depth") lines) refl h
  where
    by_depth : (t : Bool) → names (codes "depth") lines ≡ t
        → ◌≡◌ {A = Parse StatementModel} (unless_missing t (Placed spot cause.MissingDepth) (Ok lines) >>=
        λ whole. Ok (PoolModel name whole, rest)) (Err f) → LackForm spot (PoolHead name) ls f
    by_depth true d g = no_err g
    by_depth false d g = subst (λ (x : Fault). LackForm spot (PoolHead name) ls x) (errs g)
        (LackForm.depth b d)

-- the reading of a block, or its fault
with_lines : {A P : Type 0} (allowed : Keys) (ls : List Line)
    (k : List LineModel × List Line → Result A Fault) (f : Fault) → is_syntax f ≡ false
    → (block allowed ls >>= k) ≡ Err f → ((lines : List LineModel) (rest : List Line)
    → BlockForm allowed ls lines rest → k (lines, rest) ≡ Err f → P) → P
with_lines {A = A} {P = P} allowed ls k f n h go = by_block (block allowed ls) refl h
  where
    by_block : (r : Parse (List LineModel)) → block allowed ls ≡ r → (r >>= k) ≡ Err f → P
    by_block (Ok x) e g = go x.0 x.1 (block-form allowed ls x.0 x.1 e) g
    by_block (Err y) e g = block_syntax allowed ls f (e ∙ ap Err (errs g)) n

with_block-lacks : (spot : Spot) (head : HeadModel) (ls : List Line) (f : Fault) → is_syntax f ≡ false
    → with_block spot head ls ≡ Err f → LackForm spot head ls f
with_block-lacks spot (Alone one) ls f n h = no_err h
with_block-lacks spot (RuleHead name) ls f n h =
    with_lines keys.OfRule ls (λ lines. whole_rule spot lines.0 >>=
    λ whole. Ok (RuleModel name whole, lines.1)) f n h
    (λ lines rest b g. rule-lacks spot name ls rest lines f b g)
with_block-lacks spot (PoolHead name) ls f n h =
    with_lines keys.OfPool ls (λ lines. whole_pool spot lines.0 >>=
    λ whole. Ok (PoolModel name whole, lines.1)) f n h
    (λ lines rest b g. pool-lacks spot name ls rest lines f b g)
with_block-lacks spot (BuildHead outputs rule inputs) ls f n h =
    with_lines keys.All ls (λ lines. Ok (BuildModel outputs rule inputs lines.0, lines.1)) f n h
    (λ lines rest b g. no_err g)

not_so : (t : Bool) → (t ≡ true → ⊥) → t ≡ false
not_so t h = grind arith

pair-refuses : (spot : Spot) (lines : List LineModel) → (Pair lines → ⊥)
    → whole_rule spot lines ≡ Err (Placed spot cause.RspPair)
unfolding whole_rule
pair-refuses spot lines n = rw (not_so (rsp_agree lines) (λ h. n (agrees_pair lines h))) refl

command-refuses : (spot : Spot) (lines : List LineModel) → Pair lines → (Gives (codes "command") lines → ⊥)
    → whole_rule spot lines ≡ Err (Placed spot cause.MissingCommand)
unfolding whole_rule
command-refuses spot lines p n = grind (arith, pair_agrees, not_so, codes, gives-form)

depth-refuses : (spot : Spot) (lines : List LineModel)
    → list_any (λ (l : LineModel). bytes_eq l.name (codes "depth")) lines ≡ false
    → whole_pool spot lines ≡ Err (Placed spot cause.MissingDepth)
unfolding whole_pool
depth-refuses spot lines h = rw h refl

lack-refuses : {spot : Spot} {head : HeadModel} {ls : List Line} {f : Fault} → LackForm spot head ls f
    → (with_block spot head ls ≡ Err f) × (is_syntax f ≡ false)
lack-refuses {spot = spot} (LackForm.pair {lines = lines} b n) =
    (rw (block-read b, pair-refuses spot lines n) refl, refl)
lack-refuses {spot = spot} (LackForm.command {lines = lines} b p n) =
    (rw (block-read b, command-refuses spot lines p n) refl, refl)
lack-refuses {spot = spot} (LackForm.depth {lines = lines} b n) =
    (rw (block-read b, depth-refuses spot lines n) refl, refl)

-- ---- the next statement

plain-lacks : (l : Line) (ls : List Line) (f : Fault) → is_syntax f ≡ false → kind_of l ≡ PlainLine
    → next_statement (l ∷ ls) ≡ Err f → NextLacks (l ∷ ls) f
plain-lacks l ls f n k h = by_head (head_outcome l k)
  where
    by_head : Outcome Plain l.units l → NextLacks (l ∷ ls) f
    by_head (stuck g s) =
        let same = same_fault (next_statement (l ∷ ls)) f g h (plain_bad l ls g k (s.fails ls).1) in
        no_syntax f (ap is_syntax (sym same) ∙ names_syntax g _ s.place) n
    by_head (through v so) =
        let read = (so ls).1 in
        let failed = placed_fault (line_spot l) (with_block (line_spot l) v (lines_after l ls)) f
        (sym (plain_read l ls v (Between (lines_after l ls)) k read) ∙ h) in
        NextLacks.statement k (head-form l ls v (Between (lines_after l ls)) read).0
        (with_block-lacks (line_spot l) v (lines_after l ls) f n failed)

next-lacks : (ls : List Line) (f : Fault) → is_syntax f ≡ false → next_statement ls ≡ Err f → NextLacks ls f
next-lacks [] f n h = absurd (nothing_no_fault [] f (sym next-nothing ∙ h))
next-lacks (l ∷ ls) f n h = by_kind (kind_of l) refl (next-lacks ls f n)
  where
    by_kind : (k : Kind) → kind_of l ≡ k → (next_statement ls ≡ Err f → NextLacks ls f) → NextLacks (l ∷ ls) f
    by_kind CommentLine k rest =
        let last = not_last l.is_last (lines_after l (without_comments ls)) (next_statement ls) f
        (sym (next-kind l ls CommentLine k) ∙ h) in
        NextLacks.comment k last.0 (rest last.1)
    by_kind (TabLine tab) k rest = no_syntax f
        (ap is_syntax (sym (same_fault (next_statement (l ∷ ls)) f (Placed tab cause.Tab) h
        (next-kind l ls (TabLine tab) k)))) n
    by_kind IndentedLine k rest = no_syntax f
        (ap is_syntax (sym (same_fault (next_statement (l ∷ ls)) f
        (Placed (front_of l) cause.UnexpectedIndent) h (next-kind l ls IndentedLine k)))) n
    by_kind BlankLine k rest =
        let last = not_last l.is_last (lines_after l ls) (next_statement ls) f
        (sym (next-kind l ls BlankLine k) ∙ h) in
        NextLacks.blank k last.0 (rest last.1)
    by_kind PlainLine k rest = plain-lacks l ls f n k h

next-refuses : {ls : List Line} {f : Fault} → NextLacks ls f
    → (next_statement ls ≡ Err f) × (is_syntax f ≡ false)
next-refuses (NextLacks.statement {l = l} {ls = ls} {head = head} {fault = f} k first lacks) =
    let r = lack-refuses lacks in (
      plain_read l ls head (Between (lines_after l ls)) k (head-read l ls head first)
          ∙ placed_bad (line_spot l) (with_block (line_spot l) head (lines_after l ls)) f r.0,
      r.1,
    )
next-refuses (NextLacks.blank {l = l} {ls = ls} k e others) = grind (
  arith,
  next-refuses others,
  next-kind l ls BlankLine k,
  nothing_more (lines_after l ls),
)
next-refuses (NextLacks.comment {l = l} {ls = ls} k e others) = grind (
  arith,
  next-refuses others,
  next-kind l ls CommentLine k,
  nothing_more (lines_after l (without_comments ls)),
)

pub are_lacking : MissingLinesAreLacking
are_lacking ls f = (λ h. next-lacks ls f h.1 h.0, λ l. next-refuses l)
