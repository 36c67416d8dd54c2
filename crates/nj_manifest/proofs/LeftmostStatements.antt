-- The first fault of the next statement of some lines.
use Rattle.std.proofs.Common.{arith, ◌≡◌, Bool, true, false, cond, inl, inr, Option, Some, Result, Ok, Err}
use Rattle.std.proofs.Common.{List, []}
use Rattle.std.proofs.Common.{◌∷◌, ◌++◌, map, refl, sym, ap, subst, ◌∙◌, codes}
use Rattle.nj_text.specs.declared.spot.Spot.{Spot}
use Rattle.nj_text.specs.Units.{TextUnit}
use Rattle.nj_text.specs.Lines.{Line, line_spot, with_units, lines_after, Kind, CommentLine, TabLine}
use Rattle.nj_text.specs.Lines.{BlankLine, IndentedLine, PlainLine, kind_of, is_space_unit}
use Rattle.nj_text.specs.Calls.{State, Between, Inside, without_comments}
use Rattle.nj_text.proofs.Lists.{AllIn}
use Rattle.nj_manifest.specs.declared.cause.SyntaxCause.TheVariants as cause
use Rattle.nj_manifest.specs.declared.block_lines.Keys.{Keys}
use Rattle.nj_manifest.specs.Faults.{Fault, Placed, is_syntax}
use Rattle.nj_manifest.specs.LineSteps.{Step, ◌>>=◌, name_next, expect_sign}
use Rattle.nj_manifest.specs.Statements.{LineModel, PlacedModel, StatementModel, lines_from, equals_value}
use Rattle.nj_manifest.specs.Statements.{block, statement_after, next_statement}
use Rattle.nj_manifest.specs.Leftmost.{continues, element, written, NamesThePlaceOf, met_before, offers}
use Rattle.nj_manifest.specs.Leftmost.{ComesLeftmost}
use Rattle.nj_manifest.specs.Grammar.{Alone, HeadModel}
use Rattle.nj_manifest.specs.Openings.{Parse, front_of, opening}
use Rattle.nj_manifest.specs.Inside.Heads.{head_next, with_block, statement_here}
use Rattle.nj_manifest.proofs.NextTurns.{nothing_more, next-nothing, next-kind}
use Rattle.nj_manifest.proofs.BlockLines.{in_front}
use Rattle.nj_manifest.proofs.LeftmostFronts.{element-front}
use Rattle.nj_manifest.proofs.LeftmostSteps.{at, text, Fits, Claim, begin, Stuck, Outcome, stuck, through}
use Rattle.nj_manifest.proofs.LeftmostHeads.{starts, head_turn}
use Rattle.nj_manifest.proofs.LeftmostBlocks.{BlockStuck, block_stuck, blank_block}
use Rattle.nj_manifest.proofs.LeftmostEnds.{keys_of, closing, closing_plain, closed, block_refuses}
use Rattle.nj_manifest.proofs.LeftmostEnds.{fault_of_block}
use Rattle.nj_manifest.proofs.LeftmostKinds.{kind_units, spaces_of, after_spaces, spaces_cut, spaces_pass}
use Rattle.nj_manifest.proofs.LeftmostKinds.{kind_spaced, kind_replaced, plain_same, identifier_plain}
use Rattle.nj_manifest.proofs.LeftmostKinds.{tab_place, unspaced, no_space_same}

-- ---- a line with which a statement begins

abbrev pub Plain : Claim HeadModel
Plain x e ms r = (kind_units x ≡ PlainLine) × (head_next (at x e ms) ≡ r)

pub head_outcome : (l : Line) → kind_of l ≡ PlainLine → Outcome Plain l.units l
head_outcome l h = head_turn l l.units (begin Plain head_next starts l.units by_fit)
  where
    by_fit : (x : List TextUnit) (e : Line) (ms : List Line) → Fits starts l.units x
        → Plain x e ms (head_next (at x e ms))
    by_fit x e ms (inl f) = (identifier_plain x f, refl)
    by_fit x e ms (inr f) = (plain_same l.units x h f, refl)

-- the statement after its first line
abbrev placed_then : Spot → HeadModel × State → Parse (Option PlacedModel)
placed_then spot head = with_block spot head.0 (lines_from head.1) >>=
    λ item. Ok (Some (record { spot = spot; item = item.0 }), item.1)

plain_next : (l : Line) (ms : List Line) → kind_of l ≡ PlainLine
    → next_statement (l ∷ ms) ≡ (head_next (Inside l ms) >>= placed_then (line_spot l))
unfolding statement_here
plain_next l ms h = next-kind l ms PlainLine h

pub plain_bad : (l : Line) (ms : List Line) (f : Fault) → kind_of l ≡ PlainLine
    → head_next (Inside l ms) ≡ Err f → next_statement (l ∷ ms) ≡ Err f
plain_bad l ms f h r = plain_next l ms h ∙ ap (λ (y : Step HeadModel). y >>= placed_then (line_spot l)) r

pub plain_read : (l : Line) (ms : List Line) (v : HeadModel) (s : State) → kind_of l ≡ PlainLine
    → head_next (Inside l ms) ≡ Ok (v, s) → next_statement (l ∷ ms) ≡ placed_then (line_spot l) (v, s)
plain_read l ms v s h r = plain_next l ms h ∙ ap (λ (y : Step HeadModel). y >>= placed_then (line_spot l)) r

placed_some : (spot : Spot) (r : Parse StatementModel) (item : StatementModel) (rest : List Line)
    → r ≡ Ok (item, rest) → ◌≡◌ {A = Parse (Option PlacedModel)}
    (r >>= λ item. Ok (Some (record { spot = spot; item = item.0 }), item.1))
    (Ok (Some (record { spot = spot; item = item }), rest))
placed_some spot r item rest h = rw h refl

pub placed_bad : (spot : Spot) (r : Parse StatementModel) (f : Fault) → r ≡ Err f
    → ◌≡◌ {A = Parse (Option PlacedModel)}
    (r >>= λ item. Ok (Some (record { spot = spot; item = item.0 }), item.1)) (Err f)
placed_bad spot r f h = rw h refl

pub errs : {A : Type 0} {x y : Fault} → ◌≡◌ {A = Result A Fault} (Err x) (Err y) → x ≡ y
errs e = cc

pub placed_fault : (spot : Spot) (r : Parse StatementModel) (f : Fault)
    → ◌≡◌ {A = Parse (Option PlacedModel)}
    (r >>= λ item. Ok (Some (record { spot = spot; item = item.0 }), item.1)) (Err f) → r ≡ Err f
placed_fault spot r f h = grind arith

-- some statement, where some reading ends so
abbrev SomeOf : List Line → Type 0
SomeOf ls = (placed : PlacedModel) × (rest : List Line) × (next_statement ls ≡ Ok (Some placed, rest))

some_closed : (l : Line) (ms : List Line) (v : HeadModel) (s : State) (read : List LineModel)
    → kind_of l ≡ PlainLine → head_next (Inside l ms) ≡ Ok (v, s)
    → block (keys_of v) (lines_from s) ≡ in_front read (block (keys_of v) (map written (closing v)))
    → SomeOf (l ∷ ms)
some_closed l ms v s read h r b =
    let c = closed (line_spot l) v (lines_from s) read b in (
      record { spot = line_spot l; item = c.0 },
      c.1,
      plain_read l ms v s h r
          ∙ placed_some (line_spot l) (with_block (line_spot l) v (lines_from s)) c.0 c.1 c.2,
    )

nothing-in_front : {A : Type 0} (r : Parse (List A)) → (r >>= λ o. Ok ([] ++ o.0, o.1)) ≡ r
nothing-in_front r = grind arith

-- the fault is in the first line
stuck_first : (l : Line) (ls : List Line) (fault : Fault) → Stuck Plain l.units l fault
    → ComesLeftmost (l ∷ ls) fault
stuck_first l ls fault s =
    let lines = map written (closing s.value) in
    let r = s.some lines in
    let c = some_closed (with_units (s.begun ++ text s.bytes) (written [])) lines s.value (Between lines) []
    r.0 r.1 (sym (nothing-in_front (block (keys_of s.value) lines))) in
    record {
      before = [];
      begun = s.begun;
      line = with_units s.left l;
      others = ls;
      cut = ap (λ (y : List TextUnit). with_units y l ∷ ls) s.cut;
      place = s.place;
      some = record {
        bytes = s.bytes;
        lines = closing s.value;
        plain_bytes = s.plain;
        offered = s.offered;
        plain_lines = closing_plain s.value;
        placed = c.0;
        rest = c.1;
        reads = c.2;
      };
      refuses = λ m ms same.
          let n = s.refuses m.units m ms same in
          plain_bad (with_units (s.begun ++ m.units) m) ms (met_before m fault) n.0 n.1;
    }

-- the lines after a line that is not the last
after_more : (l : Line) (ms : List Line) → l.is_last ≡ false → lines_after l ms ≡ ms
after_more l ms h = ap (λ (t : Bool). cond t (with_units [] l ∷ ms) ms) h

-- the fault is in the block
stuck_in_block : (l : Line) (ls : List Line) (fault : Fault) (v : HeadModel) → kind_of l ≡ PlainLine
    → l.is_last ≡ false → ((ms : List Line) → head_next (Inside l ms) ≡ Ok (v, Between (lines_after l ms)))
    → ((item : StatementModel) → v ≡ Alone item → ⊥)
    → BlockStuck (keys_of v) ls fault → ComesLeftmost (l ∷ ls) fault
stuck_in_block l ls fault v k last reads all s =
    let lines = map written (closing v) in
    let xs = continues s.before s.begun (written s.bytes) lines in
    let b : block (keys_of v) (lines_after l xs) ≡ in_front s.read (block (keys_of v) lines) =
    ap (block (keys_of v)) (after_more l xs last) ∙ s.some lines in
    let c = some_closed l xs v (Between (lines_after l xs)) s.read k (reads xs) b in
    record {
      before = l ∷ s.before;
      begun = s.begun;
      line = s.line;
      others = s.others;
      cut = ap (λ (y : List Line). l ∷ y) s.cut;
      place = s.place;
      some = record {
        bytes = s.bytes;
        lines = closing v;
        plain_bytes = s.plain;
        offered = s.offered;
        plain_lines = closing_plain v;
        placed = c.0;
        rest = c.1;
        reads = c.2;
      };
      refuses = λ m ms same.
          let ys = continues s.before s.begun m ms in
          let n : block (keys_of v) (lines_after l ys) ≡ Err (met_before m fault) =
          ap (block (keys_of v)) (after_more l ys last) ∙ s.refuses m ms same in
          plain_read l ys v (Between (lines_after l ys)) k (reads ys)
          ∙ placed_bad (line_spot l) (with_block (line_spot l) v (lines_after l ys)) (met_before m fault)
          (block_refuses (line_spot l) v (lines_after l ys) (met_before m fault) all n);
    }

no_block_fault : (allowed : Keys) (l : Line) (ls : List Line) (f : Fault)
    → block allowed (with_units [] l ∷ ls) ≡ Err f → ⊥
no_block_fault allowed l ls f h = grind (arith, blank_block)

pub same_fault : {A : Type 0} (r : Result A Fault) (f g : Fault) → r ≡ Err f → r ≡ Err g → g ≡ f
same_fault r f g h i = errs (sym i ∙ h)

as_fault : (ls : List Line) (f g : Fault) → g ≡ f → ComesLeftmost ls g → ComesLeftmost ls f
as_fault ls f g e s = subst (λ (h : Fault). ComesLeftmost ls h) e s

plain_leftmost : (l : Line) (ls : List Line) (fault : Fault) → kind_of l ≡ PlainLine
    → next_statement (l ∷ ls) ≡ Err fault → is_syntax fault ≡ true → ComesLeftmost (l ∷ ls) fault
plain_leftmost l ls fault k h syntax = by_head (head_outcome l k)
  where
    by_last : (v : HeadModel) (t : Bool) → l.is_last ≡ t
        → ((ms : List Line) → head_next (Inside l ms) ≡ Ok (v, Between (lines_after l ms)))
        → ((item : StatementModel) → v ≡ Alone item → ⊥)
        → block (keys_of v) (cond t (with_units [] l ∷ ls) ls) ≡ Err fault → ComesLeftmost (l ∷ ls) fault
    by_last v true last reads all b = absurd (no_block_fault (keys_of v) l ls fault b)
    by_last v false last reads all b = stuck_in_block l ls fault v k last reads all
        (block_stuck (keys_of v) ls fault b)

    by_head : Outcome Plain l.units l → ComesLeftmost (l ∷ ls) fault
    by_head (stuck f s) = as_fault (l ∷ ls) fault f
        (same_fault (next_statement (l ∷ ls)) fault f h (plain_bad l ls f k (s.fails ls).1))
        (stuck_first l ls f s)
    by_head (through v so) =
        let failed = placed_fault (line_spot l) (with_block (line_spot l) v (lines_after l ls)) fault
        (sym (plain_read l ls v (Between (lines_after l ls)) k (so ls).1) ∙ h) in
        let b = fault_of_block (line_spot l) v (lines_after l ls) fault failed syntax in
        by_last v l.is_last refl (λ ms. (so ms).1) b.0 b.1

-- ---- lines before a statement

one_statement : SomeOf (written (codes "a=b") ∷ [])
unfolding next_statement opening statement_after name_next equals_value expect_sign
one_statement = (_, _, refl)

-- spaces alone, before a statement
blank_then : (sp : List TextUnit) → AllIn is_space_unit sp
    → SomeOf (with_units (sp ++ text []) (written []) ∷ written (codes "a=b") ∷ [])
blank_then sp a = (
  one_statement.0,
  one_statement.1,
  next-kind (with_units (sp ++ []) (written [])) (written (codes "a=b") ∷ []) BlankLine
      (kind_spaced sp [] a refl) ∙ one_statement.2,
)

-- The fault is the fault of the line's kind, whatever comes after its first unit.
of_kind : (l : Line) (ls : List Line) (fault : Fault) → offers fault [] ≡ true
    → NamesThePlaceOf fault (with_units (after_spaces l.units) l)
    → ((m : Line) (ms : List Line) → element m.units ≡ element (after_spaces l.units)
    → next_statement (with_units (spaces_of l.units ++ m.units) m ∷ ms) ≡ Err (met_before m fault))
    → ComesLeftmost (l ∷ ls) fault
of_kind l ls fault offered place refuses =
    let c = blank_then (spaces_of l.units) (spaces_pass l.units) in
    record {
      before = [];
      begun = spaces_of l.units;
      line = with_units (after_spaces l.units) l;
      others = ls;
      cut = ap (λ (y : List TextUnit). with_units y l ∷ ls) (spaces_cut l.units);
      place = place;
      some = record {
        bytes = [];
        lines = codes "a=b" ∷ [];
        plain_bytes = refl;
        offered = offered;
        plain_lines = refl;
        placed = c.0;
        rest = c.1;
        reads = c.2;
      };
      refuses = refuses;
    }

tab_leftmost : (l : Line) (ls : List Line) (tab : Spot) → kind_of l ≡ TabLine tab
    → ComesLeftmost (l ∷ ls) (Placed tab cause.Tab)
tab_leftmost l ls tab k =
    of_kind l ls (Placed tab cause.Tab) refl (tab_place l.units tab l.end k)
    (λ m ms same. (next-kind (with_units (spaces_of l.units ++ m.units) m) ms (TabLine tab)
    (kind_replaced l.units m.units (element-front m.units (after_spaces l.units) same) ∙ k)))

-- an indented line with the given units after its spaces
abbrev unexpected_at : Line → Parse (Option PlacedModel)
unexpected_at l = Err (Placed (record { line = (line_spot l).line; column = 1 }) cause.UnexpectedIndent)

indented_leftmost : (l : Line) (ls : List Line) → kind_of l ≡ IndentedLine
    → ComesLeftmost (l ∷ ls) (Placed (front_of l) cause.UnexpectedIndent)
indented_leftmost l ls k =
    of_kind l ls (Placed (front_of l) cause.UnexpectedIndent) refl refl
    (λ m ms same.
    let sees = element-front m.units (after_spaces l.units) same in
    next-kind (with_units (spaces_of l.units ++ m.units) m) ms IndentedLine
    (kind_replaced l.units m.units sees ∙ k)
    ∙ ap (λ (y : List TextUnit). unexpected_at (with_units y m))
    (unspaced (spaces_of l.units) m.units (spaces_pass l.units) (no_space_same l.units m.units sees)))

-- after a line that adds nothing, and is not the last
leftmost_after : (l : Line) (ls : List Line) (fault : Fault)
    → ((ms : List Line) → next_statement (l ∷ ms) ≡ next_statement ms) → ComesLeftmost ls fault
    → ComesLeftmost (l ∷ ls) fault
leftmost_after l ls fault same r = record {
  before = l ∷ r.before;
  begun = r.begun;
  line = r.line;
  others = r.others;
  cut = ap (λ (y : List Line). l ∷ y) r.cut;
  place = r.place;
  some = record {
    bytes = r.some.bytes;
    lines = r.some.lines;
    plain_bytes = r.some.plain_bytes;
    offered =
        r.some.offered;
    plain_lines = r.some.plain_lines;
    placed = r.some.placed;
    rest = r.some.rest;
    reads =
        same (continues r.before r.begun (written r.some.bytes) (map written r.some.lines)) ∙ r.some.reads;
  };
  refuses = λ m ms e. same (continues r.before r.begun m ms) ∙ r.refuses m ms e;
}

pub not_last : (t : Bool) (rest : List Line) (others : Parse (Option PlacedModel)) (f : Fault)
    → cond t (nothing_more rest) others ≡ Err f → (t ≡ false) × (others ≡ Err f)
not_last t rest others f h = grind arith

pub nothing_no_fault : (rest : List Line) (f : Fault) → nothing_more rest ≡ Err f → ⊥
nothing_no_fault rest f h = absurd cc

pub leftmost : (ls : List Line) (fault : Fault) → next_statement ls ≡ Err fault → is_syntax fault ≡ true
    → ComesLeftmost ls fault
leftmost [] fault h syntax = absurd (nothing_no_fault [] fault (sym next-nothing ∙ h))
leftmost (l ∷ ls) fault h syntax = by_kind (kind_of l) refl (λ e. leftmost ls fault e syntax)
  where
    by_kind : (k : Kind) → kind_of l ≡ k → (next_statement ls ≡ Err fault → ComesLeftmost ls fault)
        → ComesLeftmost (l ∷ ls) fault
    by_kind CommentLine k rest =
        let last = not_last l.is_last (lines_after l (without_comments ls)) (next_statement ls) fault
        (sym (next-kind l ls CommentLine k) ∙ h) in
        leftmost_after l ls fault (λ ms. next-kind l ms CommentLine k
        ∙ ap (λ (t : Bool). cond t (nothing_more (lines_after l (without_comments ms)))
        (next_statement ms)) last.0) (rest last.1)
    by_kind (TabLine tab) k rest = as_fault (l ∷ ls) fault (Placed tab cause.Tab)
        (same_fault (next_statement (l ∷ ls)) fault (Placed tab cause.Tab) h (next-kind l ls (TabLine tab) k))
        (tab_leftmost l ls tab k)
    by_kind IndentedLine k rest = as_fault (l ∷ ls) fault (Placed (front_of l) cause.UnexpectedIndent)
        (same_fault (next_statement (l ∷ ls)) fault (Placed (front_of l) cause.UnexpectedIndent) h
        (next-kind l ls IndentedLine k)) (indented_leftmost l ls k)
    by_kind BlankLine k rest =
        let last = not_last l.is_last (lines_after l ls) (next_statement ls) fault
        (sym (next-kind l ls BlankLine k) ∙ h) in
        leftmost_after l ls fault (λ ms. next-kind l ms BlankLine k
        ∙ ap (λ (t : Bool). cond t (nothing_more (lines_after l ms)) (next_statement ms)) last.0)
        (rest last.1)
    by_kind PlainLine k rest = plain_leftmost l ls fault k h syntax
