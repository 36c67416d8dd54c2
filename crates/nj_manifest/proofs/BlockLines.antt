-- The lines of a block, as the lexer comes to them.
use Rattle.std.proofs.lemmas.Grind.{common_steps}
use Rattle.std.proofs.Common.{◌≡◌, ℕ, ◌+◌, ◌<◌, ◌≤◌, Bool, true, false, cond, ◌&&◌, Result, Ok, Err}
use Rattle.std.proofs.Common.{List, [], ◌∷◌, ◌++◌, refl, sym, ap, subst, ◌∙◌, arith}
use Rattle.std.proofs.lemmas.List.{append-nil}
use Rattle.std.specs.Result.{IsErr, IsErrAnd}
use Rattle.std.proofs.lemmas.Bool.{false≢true}
use Rattle.nj_text.specs.declared.fault.UnitFault.TheVariants as unit_fault
use Rattle.nj_text.specs.declared.fault.LexFault.{LexFault}
use Rattle.nj_text.specs.declared.fault.LexFault.TheVariants as lex
use Rattle.nj_text.specs.declared.line_start.LineStart.{LineStart}
use Rattle.nj_text.specs.declared.line_start.LineStart.TheVariants as start
use Rattle.nj_text.specs.Lines.{Line, with_units, lines_after, Kind, BlankLine}
use Rattle.nj_text.specs.Lines.{IndentedLine, kind_of}
use Rattle.nj_text.specs.Calls.{State, Between, Inside, Failed, Answers, start_line_of, begun, begun_by}
use Rattle.nj_text.specs.Calls.{is_comment, is_empty, without_comments, Reply}
use Rattle.nj_manifest.specs.declared.block_lines.Keys.{Keys}
use Rattle.nj_manifest.specs.declared.parse_fault.ParseFault.{ParseFault}
use Rattle.nj_manifest.specs.declared.parse_fault.ParseFault.TheVariants as fault
use Rattle.nj_manifest.specs.Faults.{Fault, bad_unit}
use Rattle.nj_manifest.specs.LineSteps.{Step, ◌>>=◌}
use Rattle.nj_manifest.specs.Parsers.{Fails}
use Rattle.nj_manifest.specs.Statements.{LineModel, line_next, lines_from, block_by, block}
use Rattle.nj_manifest.specs.Inside.ParserContracts.{IsBetweenStatements, ParsesFrom}
use Rattle.nj_manifest.specs.Openings.{Parse, or_last, without_spaces}
use Rattle.nj_manifest.proofs.Choices.{no_lines}
use Rattle.nj_manifest.proofs.Framing.{line-inside}

-- ---- how many lines are left

-- the last line counts only as long as it has units
abbrev pub line_weight : Line → ℕ
line_weight l = cond (l.is_last && is_empty l.units) 0 1

abbrev pub lines_weight : List Line → ℕ
lines_weight [] = 0
lines_weight (l ∷ ls) = line_weight l + lines_weight ls

abbrev pub lines_left : State → ℕ
lines_left (Between ls) = lines_weight ls
lines_left (Inside l ls) = 0
lines_left (Failed f) = 0

weight-after : (l : Line) (ls : List Line) → lines_weight (lines_after l ls) ≡ lines_weight ls
weight-after l ls = grind arith

-- ---- the start of a line

-- The lexer is at the first line of the block that is left.
abbrev pub BeginsLine : Keys → ℕ → Parse (List LineModel) → State → Type 0
BeginsLine allowed limit whole s =
    (l : Line) × (ls : List Line) × (s ≡ Inside (without_spaces l) ls)
    × (whole ≡ block_by allowed IndentedLine l ls (block allowed ls)) × (lines_weight ls < limit)

-- The block that the start of a line implies, and where the lexer is then. The limit is the weight
-- of the lines that were left.
abbrev pub Begins : Keys → (limit : ℕ) → Parse (List LineModel) → Reply LineStart → Type 0
Begins allowed limit whole (Ok (start.Indented, s)) = BeginsLine allowed limit whole s
Begins allowed limit whole (Ok (start.Middle, s)) = ⊥
Begins allowed limit whole (Ok (other, s)) = (whole ≡ no_lines (lines_from s)) × IsBetweenStatements s
Begins allowed limit whole (Err f) = whole ≡ Err (bad_unit f)

after-last : (l : Line) (ls : List Line) → l.is_last ≡ true → lines_after l ls ≡ with_units [] l ∷ ls
after-last l ls h = ap (λ t. cond t (with_units [] l ∷ ls) ls) h

-- an empty end of the text stays unchanged
same-end : (l : Line) (ls : List Line) → (l.is_last && is_empty l.units) ≡ true → lines_after l ls ≡ l ∷ ls
same-end l ls h = grind arith

blank_is_indented : BlankLine ≡ IndentedLine → ⊥
blank_is_indented h = absurd cc

-- an indented line has units
indented-weight : (l : Line) → kind_of l ≡ IndentedLine → line_weight l ≡ 1
indented-weight l h = grind arith

begun-kind : (allowed : Keys) (limit : ℕ) (k : Kind) (l : Line) (ls : List Line) → kind_of l ≡ k
    → is_comment k ≡ false → lines_weight (l ∷ ls) ≤ limit
    → Begins allowed limit (block_by allowed k l ls (block allowed ls)) (begun_by k l ls)
begun-kind allowed limit k l ls e h g = grind arith

-- a comment adds nothing
block-comment : (allowed : Keys) (k : Kind) (l : Line) (ls : List Line) (others : Parse (List LineModel))
    → is_comment k ≡ true → block_by allowed k l ls others
    ≡ or_last l (no_lines (lines_after l (without_comments ls))) others
block-comment allowed k l ls others h = grind arith

begun-begins : (allowed : Keys) (limit : ℕ) (ls : List Line) → lines_weight ls ≤ limit
    → Begins allowed limit (block allowed ls) (begun (without_comments ls))
unfolding block
begun-begins allowed limit [] h = (refl, tt)
begun-begins allowed limit (l ∷ ls) h =
    by_comment (is_comment (kind_of l)) refl (begun-begins allowed limit ls (omega arith))
  where
    by_last : (t : Bool) → l.is_last ≡ t → Begins allowed limit (block allowed ls)
        (begun (without_comments ls))
        → Begins allowed limit (cond t (no_lines
        (cond t (with_units [] l ∷ without_comments ls) (without_comments ls))) (block allowed ls))
        (begun (cond t (with_units [] l ∷ without_comments ls) (without_comments ls)))
    by_last true e rest = rw e (refl, tt)
    by_last false e rest = rest

    by_comment : (t : Bool) → is_comment (kind_of l) ≡ t
        → Begins allowed limit (block allowed ls) (begun (without_comments ls))
        → Begins allowed limit (block_by allowed (kind_of l) l ls (block allowed ls))
        (begun (cond t (lines_after l (without_comments ls)) (l ∷ ls)))
    by_comment false e rest = begun-kind allowed limit (kind_of l) l ls refl e h
    by_comment true e rest =
        subst (λ (whole : Parse (List LineModel)). Begins allowed limit whole
        (begun (lines_after l (without_comments ls))))
        (sym (block-comment allowed (kind_of l) l ls (block allowed ls) e)) (by_last l.is_last refl rest)

-- the result of the lexer at the start of a line
pub start-begins : (allowed : Keys) (ls : List Line) (r : Reply LineStart) → start_line_of (Between ls) ≡ r
    → Begins allowed (lines_weight ls) (block allowed ls) r
start-begins allowed ls r h = grind (arith, begun-begins allowed (lines_weight ls) ls (omega arith))

-- a line is followed by the rest of the block
pub block-after : (allowed : Keys) (l : Line) (ls : List Line)
    → block allowed (lines_after l ls) ≡ or_last l (no_lines (lines_after l ls)) (block allowed ls)
unfolding block
block-after allowed l ls = grind arith

-- ---- the turns of the loop

-- the lines read before are put in front
abbrev pub in_front : List LineModel → Parse (List LineModel) → Parse (List LineModel)
in_front front others = others >>= λ o. Ok (front ++ o.0, o.1)

-- The lines read, in front of the lines that are still to be read, are the whole.
abbrev pub StillReads : Keys → (front : List LineModel) → (before now : State) → Type 0
StillReads allowed front (Between ls) now =
    (ms : List Line) × (now ≡ Between ms) × (in_front front (block allowed ms) ≡ block allowed ls)
StillReads allowed front other now = Unit {0}

pub still-begins : (allowed : Keys) (before : State) → StillReads allowed [] before before
still-begins allowed before = grind arith

-- the start of a line, as it is answered
abbrev pub Started : LineStart → (before after : State) → Type 0
Started start before after = Answers {X = LineStart} (λ s. s) (Ok start) after (start_line_of before)

abbrev begins_indented : Reply LineStart → Bool
begins_indented (Ok (start.Indented, s)) = true
begins_indented other = false

-- An indented line comes only after the start of a line.
started-indented : (allowed : Keys) (s middle : State) → Started start.Indented s middle
    → (ms : List Line) × (s ≡ Between ms) × BeginsLine allowed (lines_weight ms) (block allowed ms) middle
started-indented allowed (Between ms) middle h =
    (ms, refl, start-begins allowed ms (Ok (start.Indented, middle)) h)
started-indented allowed (Inside l ls) middle h = absurd (false≢true (ap begins_indented h))
started-indented allowed (Failed f) middle h = absurd (false≢true (ap begins_indented h))

-- where a line that was read leaves the lexer
line-after : (allowed : Keys) (l : Line) (ls : List Line) (middle : State) (line : LineModel) (after : State)
    → middle ≡ Inside (without_spaces l) ls → line_next allowed middle ≡ Ok (line, after)
    → after ≡ Between (lines_after l ls)
line-after allowed l ls middle line after i h = grind (arith, line-inside)

-- After a line fewer lines are left.
pub lines_left-line : (allowed : Keys) (s middle : State) (line : LineModel) (after : State)
    → Started start.Indented s middle → line_next allowed middle ≡ Ok (line, after)
    → lines_left after < lines_left s
lines_left-line allowed s middle line after h e =
    let b = started-indented allowed s middle h in
    let here : lines_left s ≡ lines_weight b.0 = ap lines_left b.1 in
    let there : lines_left after ≡ lines_weight (lines_after b.2.0 b.2.1) =
    ap lines_left (line-after allowed b.2.0 b.2.1 middle line after b.2.2 e) in
    let fewer : lines_weight b.2.1 < lines_weight b.0 = b.2.4 in
    let remainder = weight-after b.2.0 b.2.1 in
    omega arith

in_front-more : (front : List LineModel) (line : LineModel) (after : State) (l : Line)
    (last others : Parse (List LineModel)) (x : Step LineModel) → x ≡ Ok (line, after)
    → in_front front (x >>= λ line. (or_last l last others >>= λ more. Ok (line.0 ∷ more.0, more.1)))
    ≡ in_front (front ++ line ∷ []) (or_last l last others)
in_front-more front line after l last others x h = grind (arith, common_steps)

-- the block after a line
after-turn : (allowed : Keys) (front : List LineModel) (l : Line) (ms : List Line) (middle : State)
    (line : LineModel) (after : State) (left whole : Parse (List LineModel))
    → middle ≡ Inside (without_spaces l) ms
    → left ≡ block_by allowed IndentedLine l ms (block allowed ms) → in_front front left ≡ whole
    → line_next allowed middle ≡ Ok (line, after)
    → in_front (front ++ line ∷ []) (block allowed (lines_after l ms)) ≡ whole
after-turn allowed front l ms middle line after left whole i b w e =
    let more = in_front-more front line after l (no_lines (lines_after l ms)) (block allowed ms)
    (line_next allowed (Inside (without_spaces l) ms)) (ap (line_next allowed) (sym i) ∙ e) in
    ap (in_front (front ++ line ∷ [])) (block-after allowed l ms) ∙ sym more ∙ sym (ap (in_front front) b) ∙ w

pub block-turn : (allowed : Keys) (front : List LineModel) (before s middle : State) (line : LineModel)
    (after : State) → StillReads allowed front before s → Started start.Indented s middle
    → line_next allowed middle ≡ Ok (line, after)
    → StillReads allowed (front ++ line ∷ []) before after
block-turn allowed front (Between ls) s middle line after still h e =
    let b = start-begins allowed still.0 (Ok (start.Indented, middle)) (ap start_line_of (sym still.1) ∙ h)
    in (
      lines_after b.0 b.1,
      line-after allowed b.0 b.1 middle line after b.2 e,
      after-turn allowed front b.0 b.1 middle line after (block allowed still.0) (block allowed ls) b.2 b.3
          still.2 e,
    )
block-turn allowed front (Inside l ls) s middle line after still h e = tt
block-turn allowed front (Failed f) s middle line after still h e = tt

-- a line of another kind ends the block
ends-block : (allowed : Keys) (limit : ℕ) (whole : Parse (List LineModel)) (x : LineStart) (s : State)
    → (x ≡ start.Indented → ⊥) → Begins allowed limit whole (Ok (x, s))
    → (whole ≡ no_lines (lines_from s)) × IsBetweenStatements s
ends-block allowed limit whole x s other h = grind arith

pub block-end : {X : Type 0} (view : X → List LineModel) (allowed : Keys) (before s after : State)
    (x : LineStart) (lines : X) → StillReads allowed (view lines) before s → (x ≡ start.Indented → ⊥)
    → Started x s after
    → ParsesFrom view before after (block allowed) (Ok lines)
block-end view allowed (Between ls) s after x lines still other h =
    let e = ends-block allowed (lines_weight still.0) (block allowed still.0) x after other
    (start-begins allowed still.0 (Ok (x, after)) (ap start_line_of (sym still.1) ∙ h)) in (
      sym still.2 ∙ ap (in_front (view lines)) e.0
          ∙ ap (λ (front : List LineModel). Ok (front, lines_from after)) (append-nil (view lines)),
      e.1,
    )
block-end view allowed (Inside l ls) s after x lines still other h = tt
block-end view allowed (Failed f) s after x lines still other h = tt

-- a fault of a step is a fault of the whole
fails-so : {A B : Type 0} (f : ParseFault) (x : Result A Fault) (y : Result B Fault)
    → ((e : Fault) → x ≡ Err e → y ≡ Err e) → Fails f x → Fails f y
fails-so f x y so h = grind arith

-- a whole that fails, as it is answered
abbrev pub FailsFrom : State → (List Line → Parse (List LineModel)) → ParseFault → Type 0
FailsFrom (Between ls) reading f = Fails f (reading ls)
FailsFrom other reading f = Unit {0}

pub fails-from : {X : Type 0} (view : X → List LineModel) (before after : State)
    (reading : List Line → Parse (List LineModel)) (r : Result X ParseFault) (f : ParseFault)
    → IsErr r × IsErrAnd r (λ e. e ≡ f) → FailsFrom before reading f
    → ParsesFrom view before after reading r
fails-from view before after reading r f h so = grind arith

pub block-start-fails : (allowed : Keys) (front : List LineModel) (before s after : State) (f : LexFault)
    → StillReads allowed front before s → Answers {X = LineStart} (λ s. s) (Err f) after (start_line_of s)
    → FailsFrom before (block allowed) (fault.Lex f)
block-start-fails allowed front (Between ls) s after lex.OutOfMemory still h = tt
block-start-fails allowed front (Between ls) s after (lex.BadByte spot) still h = grind arith
block-start-fails allowed front (Between ls) s after (lex.Tab spot) still h = grind (
  arith,
  start-begins allowed still.0 (Err (unit_fault.Tab spot)) (ap start_line_of (sym still.1) ∙ h.0),
)
block-start-fails allowed front (Between ls) s after (lex.BadEscape spot) still h = grind arith
block-start-fails allowed front (Inside l ls) s after f still h = tt
block-start-fails allowed front (Failed g) s after f still h = tt

pub block-line-fails : (allowed : Keys) (front : List LineModel) (before s middle : State) (f : ParseFault)
    → StillReads allowed front before s → Started start.Indented s middle → Fails f (line_next allowed middle)
    → FailsFrom before (block allowed) f
block-line-fails allowed front (Between ls) s middle f still h fails =
    let b = start-begins allowed still.0 (Ok (start.Indented, middle)) (ap start_line_of (sym still.1) ∙ h) in
    fails-so f (line_next allowed middle) (block allowed ls)
    (λ e failed. sym still.2 ∙ ap (in_front front) b.3
    ∙ failed-line b.0 b.1 e (ap (line_next allowed) (sym b.2) ∙ failed)) fails
  where
    failed-line : (l : Line) (ms : List Line) (e : Fault)
        → line_next allowed (Inside (without_spaces l) ms) ≡ Err e
        → in_front front (block_by allowed IndentedLine l ms (block allowed ms)) ≡ Err e
    failed-line l ms e failed = rw failed refl
block-line-fails allowed front (Inside l ls) s middle f still h fails = tt
block-line-fails allowed front (Failed g) s middle f still h fails = tt
