-- Statements: the next reading of lines, and the forms of the grammar.
use Rattle.std.proofs.Common.{arith, ◌≡◌, Bool, true, false, cond, Option, Some, None, Ok, List, [], ◌∷◌}
use Rattle.std.proofs.Common.{refl, sym}
use Rattle.std.proofs.Common.{ap, subst, ◌∙◌}
use Rattle.nj_text.specs.declared.spot.Spot.{Spot}
use Rattle.nj_text.specs.Lines.{Line, line_spot, lines_after, Kind, CommentLine, TabLine, BlankLine}
use Rattle.nj_text.specs.Lines.{IndentedLine, PlainLine, kind_of}
use Rattle.nj_text.specs.Calls.{State, Between, Inside, without_comments}
use Rattle.nj_manifest.specs.declared.block_lines.Keys.TheVariants as keys
use Rattle.nj_manifest.specs.Openings.{Parse}
use Rattle.nj_manifest.specs.Statements.{StatementModel, RuleModel, PoolModel, BuildModel, PlacedModel}
use Rattle.nj_manifest.specs.Statements.{lines_from, block, next_statement}
use Rattle.nj_manifest.specs.Grammar.{BlockForm, StatementForm, NextForm, HeadModel, Alone, RuleHead}
use Rattle.nj_manifest.specs.Grammar.{PoolHead, BuildHead}
use Rattle.nj_manifest.specs.Laws.{StatementsAreTheForms}
use Rattle.nj_manifest.specs.Inside.Heads.{whole_rule, whole_pool, head_next, with_block, statement_here}
use Rattle.nj_manifest.proofs.NextTurns.{nothing_more, next_by, next-nothing, next-line, next-kind}
use Rattle.nj_manifest.proofs.Framing.{bind-ok}
use Rattle.nj_manifest.proofs.FormsLines.{head-form, head-read}
use Rattle.nj_manifest.proofs.FormsBlocks.{reads-it, block-form, block-read}
use Rattle.nj_manifest.proofs.FormsKeys.{rule-form, rule-read, pool-form, pool-read}

-- ---- a statement with its block

-- A statement that is read with its block has the form of a statement.
with_block-form : (spot : Spot) (head : HeadModel) (ls : List Line) (item : StatementModel) (rest : List Line)
    → with_block spot head ls ≡ Ok (item, rest) → StatementForm head ls item rest
with_block-form spot (Alone one) ls item rest h =
    let same = reads-it one ls item rest h in
    subst (λ (i : StatementModel). StatementForm (Alone one) ls i rest) same.0
    (subst (StatementForm (Alone one) ls one) same.1 StatementForm.alone)
with_block-form spot (RuleHead name) ls item rest h =
    let lines = bind-ok (block keys.OfRule ls) _ (item, rest) h in
    let whole = bind-ok (whole_rule spot lines.0.0) (λ whole. Ok (RuleModel name whole, lines.0.1))
    (item, rest) lines.2 in
    let same = reads-it (RuleModel name whole.0) lines.0.1 item rest whole.2 in
    let is = rule-form spot lines.0.0 whole.0 whole.1 in
    subst (λ (i : StatementModel). StatementForm (RuleHead name) ls i rest)
    (ap (RuleModel name) is.0 ∙ same.0)
    (StatementForm.rule (subst (λ (ms : List Line). BlockForm keys.OfRule ls lines.0.0 ms) same.1
    (block-form keys.OfRule ls lines.0.0 lines.0.1 lines.1)) is.1 is.2)
with_block-form spot (PoolHead name) ls item rest h =
    let lines = bind-ok (block keys.OfPool ls) _ (item, rest) h in
    let whole = bind-ok (whole_pool spot lines.0.0) (λ whole. Ok (PoolModel name whole, lines.0.1))
    (item, rest) lines.2 in
    let same = reads-it (PoolModel name whole.0) lines.0.1 item rest whole.2 in
    let is = pool-form spot lines.0.0 whole.0 whole.1 in
    subst (λ (i : StatementModel). StatementForm (PoolHead name) ls i rest)
    (ap (PoolModel name) is.0 ∙ same.0)
    (StatementForm.pool (subst (λ (ms : List Line). BlockForm keys.OfPool ls lines.0.0 ms) same.1
    (block-form keys.OfPool ls lines.0.0 lines.0.1 lines.1)) is.1)
with_block-form spot (BuildHead outputs rule inputs) ls item rest h =
    let lines = bind-ok (block keys.All ls) (λ lines. Ok (BuildModel outputs rule inputs lines.0, lines.1))
    (item, rest) h in
    let same = reads-it (BuildModel outputs rule inputs lines.0.0) lines.0.1 item rest lines.2 in
    subst (λ (i : StatementModel). StatementForm (BuildHead outputs rule inputs) ls i rest) same.0
    (StatementForm.build (subst (λ (ms : List Line). BlockForm keys.All ls lines.0.0 ms) same.1
    (block-form keys.All ls lines.0.0 lines.0.1 lines.1)))

-- A statement in its form is read with its block.
with_block-read : (spot : Spot) {head : HeadModel} {ls rest : List Line} {item : StatementModel}
    → StatementForm head ls item rest → with_block spot head ls ≡ Ok (item, rest)
with_block-read spot StatementForm.alone = refl
with_block-read spot (StatementForm.rule {lines = lines} f command pair) =
    rw (block-read f, rule-read spot lines command pair) refl
with_block-read spot (StatementForm.pool {lines = lines} f depth) =
    rw (block-read f, pool-read spot lines depth) refl
with_block-read spot (StatementForm.build f) = rw (block-read f) refl

-- ---- the next statement

next-is : (ls ms rest : List Line) (one found : Option PlacedModel)
    → ◌≡◌ {A = Parse (Option PlacedModel)} (Ok (one, ms)) (Ok (found, rest)) → NextForm ls one ms
    → NextForm ls found rest
next-is ls ms rest one found h f = grind arith

statement-form : (l : Line) (ls : List Line) (found : Option PlacedModel) (rest : List Line)
    → kind_of l ≡ PlainLine → statement_here l ls ≡ Ok (found, rest) → NextForm (l ∷ ls) found rest
unfolding statement_here
statement-form l ls found rest k h =
    let head = bind-ok (head_next (Inside l ls)) _ (found, rest) h in
    let item = bind-ok (with_block (line_spot l) head.0.0 (lines_from head.0.1))
    (λ item. Ok (Some (record { spot = line_spot l; item = item.0 }), item.1)) (found, rest) head.2 in
    let first = head-form l ls head.0.0 head.0.1 head.1 in
    let read = ap (λ (s : State). with_block (line_spot l) head.0.0 (lines_from s)) (sym first.1) ∙ item.1 in
    next-is (l ∷ ls) item.0.1 rest (Some (record { spot = line_spot l; item = item.0.0 })) found item.2
    (NextForm.statement k first.0 (with_block-form (line_spot l) head.0.0 (lines_after l ls) item.0.0 item.0.1
    read))

statement-read : (l : Line) (ls rest : List Line) (head : HeadModel) (item : StatementModel)
    → head_next (Inside l ls) ≡ Ok (head, Between (lines_after l ls))
    → with_block (line_spot l) head (lines_after l ls) ≡ Ok (item, rest)
    → statement_here l ls ≡ Ok (Some (record { spot = line_spot l; item = item }), rest)
unfolding statement_here
statement-read l ls rest head item h w = rw (h, w) refl

-- The next reading of lines has its form.
pub next-form : (ls : List Line) (found : Option PlacedModel) (rest : List Line)
    → next_statement ls ≡ Ok (found, rest) → NextForm ls found rest
next-form [] found rest h = next-is [] [] rest None found (sym next-nothing ∙ h) NextForm.nothing
next-form (l ∷ ls) found rest h = by_kind (kind_of l) refl (sym (next-line l ls) ∙ h)
    (next-form ls found rest)
  where
    by_last_comment : (t : Bool) → l.is_last ≡ t → kind_of l ≡ CommentLine
        → (next_statement ls ≡ Ok (found, rest) → NextForm ls found rest)
        → cond t (nothing_more (lines_after l (without_comments ls))) (next_statement ls) ≡ Ok (found, rest)
        → NextForm (l ∷ ls) found rest
    by_last_comment true e k others g = next-is (l ∷ ls) (lines_after l (without_comments ls)) rest None found
        g (NextForm.last_comment k e)
    by_last_comment false e k others g = NextForm.comment k e (others g)

    by_last_blank : (t : Bool) → l.is_last ≡ t → kind_of l ≡ BlankLine
        → (next_statement ls ≡ Ok (found, rest) → NextForm ls found rest)
        → cond t (nothing_more (lines_after l ls)) (next_statement ls) ≡ Ok (found, rest)
        → NextForm (l ∷ ls) found rest
    by_last_blank true e k others g = next-is (l ∷ ls) (lines_after l ls) rest None found g
        (NextForm.last_blank k e)
    by_last_blank false e k others g = NextForm.blank k e (others g)

    by_kind : (k : Kind) → kind_of l ≡ k → next_by k l ls (next_statement ls) ≡ Ok (found, rest)
        → (next_statement ls ≡ Ok (found, rest) → NextForm ls found rest) → NextForm (l ∷ ls) found rest
    by_kind CommentLine k g others = by_last_comment l.is_last refl k others g
    by_kind (TabLine tab) k g others = absurd cc
    by_kind IndentedLine k g others = absurd cc
    by_kind BlankLine k g others = by_last_blank l.is_last refl k others g
    by_kind PlainLine k g others = statement-form l ls found rest k g

-- A statement of the given form that is next is read.
pub next-read : {ls rest : List Line} {found : Option PlacedModel} → NextForm ls found rest
    → next_statement ls ≡ Ok (found, rest)
next-read (NextForm.statement {l = l} {ls = ls} {rest = rest} {head = head} {item = item} k f s) =
    next-kind l ls PlainLine k ∙ statement-read l ls rest head item (head-read l ls head f)
    (with_block-read (line_spot l) s)
next-read (NextForm.blank {l = l} {ls = ls} k e others) = grind (
  arith,
  next-kind l ls BlankLine k,
  nothing_more (lines_after l ls),
  next-read others,
)
next-read (NextForm.comment {l = l} {ls = ls} k e others) = grind (
  arith,
  next-kind l ls CommentLine k,
  nothing_more (lines_after l (without_comments ls)),
  next-read others,
)
next-read (NextForm.last_blank {l = l} {ls = ls} k e) = grind (
  arith,
  next-kind l ls BlankLine k,
  nothing_more (lines_after l ls),
)
next-read (NextForm.last_comment {l = l} {ls = ls} k e) = grind (
  arith,
  next-kind l ls CommentLine k,
  nothing_more (lines_after l (without_comments ls)),
)
next-read NextForm.nothing = next-nothing

pub are_the_forms : StatementsAreTheForms
are_the_forms ls found rest = (next-form ls found rest, λ f. next-read f)
