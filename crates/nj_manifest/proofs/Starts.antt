-- Where the next statement of lines begins, by the lexer's result at their start.
use Rattle.std.proofs.Common.{◌≡◌, ℕ, suc, ◌<◌, ◌≤◌, Bool, true, false, cond, ◌&&◌, Option, Some, Ok, Err}
use Rattle.std.proofs.Common.{List, [], ◌∷◌, refl, sym, ap, subst, ◌∙◌, arith}
use Rattle.std.proofs.lemmas.Bool.{false≢true}
use Rattle.nj_text.specs.declared.fault.UnitFault.TheVariants as unit_fault
use Rattle.nj_text.specs.declared.fault.LexFault.{LexFault}
use Rattle.nj_text.specs.declared.fault.LexFault.TheVariants as lex
use Rattle.nj_text.specs.declared.line_start.LineStart.{LineStart}
use Rattle.nj_text.specs.declared.line_start.LineStart.TheVariants as start
use Rattle.nj_text.specs.declared.spot.Spot.{Spot}
use Rattle.nj_text.specs.Units.{TextUnit}
use Rattle.nj_text.specs.Lines.{Line, with_units, lines_after, Kind}
use Rattle.nj_text.specs.Lines.{PlainLine, kind_of}
use Rattle.nj_text.specs.Inside.States.{reply}
use Rattle.nj_text.specs.Calls.{State, Reply, Between, Inside, Failed, Answers, start_line_of, begun}
use Rattle.nj_text.specs.Calls.{begun_by, is_comment, is_empty, without_comments, spot_of}
use Rattle.nj_manifest.specs.declared.cause.SyntaxCause.TheVariants as cause
use Rattle.nj_manifest.specs.declared.parse_fault.ParseFault.TheVariants as fault
use Rattle.nj_manifest.specs.Faults.{Placed, bad_unit}
use Rattle.nj_manifest.specs.Parsers.{Fails}
use Rattle.nj_manifest.specs.Statements.{lines_from}
use Rattle.nj_manifest.specs.Openings.{Parse, opening_by, opening, or_last}
use Rattle.nj_manifest.specs.Inside.ParserContracts.{IsBetweenStatements, FindsOpening}
use Rattle.nj_manifest.proofs.Choices.{ended}

abbrev Next : Type 0
Next = Parse (Option Line)

abbrev pub front_at : Spot → Spot
front_at spot = record { line = spot.line; column = 1 }

-- The lexer is at the first unit of a line with which a statement begins.
abbrev pub BeginsHere : Next → State → Type 0
BeginsHere next s = (l : Line) × (ls : List Line) × (s ≡ Inside l ls) × (kind_of l ≡ PlainLine)
    × (next ≡ Ok (Some l, ls))

-- the next statement that the start of a line implies
abbrev pub Begins : Next → Reply LineStart → Type 0
Begins next (Ok (start.End, s)) = (next ≡ ended (lines_from s)) × (ls : List Line) × (s ≡ Between ls)
Begins next (Ok (start.Blank, s)) = (ls : List Line) × (s ≡ Between ls) × (next ≡ opening ls)
Begins next (Ok (start.Indented, s)) = next ≡ Err (Placed (front_at (spot_of s)) cause.UnexpectedIndent)
Begins next (Ok (start.Plain, s)) = BeginsHere next s
Begins next (Ok (start.Middle, s)) = BeginsHere next s
Begins next (Err f) = next ≡ Err (bad_unit f)

-- a last line without units is blank, and nothing comes after it
next-empty : (l : Line) (ls : List Line) → l.is_last ≡ true
    → opening (with_units [] l ∷ ls) ≡ ended (with_units [] l ∷ ls)
unfolding opening
next-empty l ls e = rw e refl

no-units : (us : List TextUnit) → is_empty us ≡ true → us ≡ []
no-units us h = grind arith

without-units : (l : Line) → is_empty l.units ≡ true → with_units [] l ≡ l
without-units l h = ap (λ (us : List TextUnit). with_units us l) (sym (no-units l.units h))

abbrev BeginsBlank : Line → List Line → (last empty : Bool) → Type 0
BeginsBlank l ls last empty =
    Begins (cond last (ended (cond last (with_units [] l ∷ ls) ls)) (opening ls))
    (cond (last && empty) (reply start.End (Between (l ∷ ls)))
    (reply start.Blank (Between (cond last (with_units [] l ∷ ls) ls))))

begun-blank : (l : Line) (ls : List Line) (last empty : Bool) → l.is_last ≡ last → is_empty l.units ≡ empty
    → BeginsBlank l ls last empty
begun-blank l ls last empty e h = grind (arith, ended, without-units, next-empty)

begun-kind : (k : Kind) (l : Line) (ls : List Line) → kind_of l ≡ k → is_comment k ≡ false
    → Begins (opening_by k l ls (opening ls)) (begun_by k l ls)
begun-kind k l ls e h = grind (arith, begun-blank)

abbrev BeginsAt : Next → List Line → Type 0
BeginsAt next ls = Begins next (begun ls)

next-comment : (k : Kind) (l : Line) (ls : List Line) (others : Next) → is_comment k ≡ true
    → opening_by k l ls others ≡ or_last l (ended (lines_after l (without_comments ls))) others
next-comment k l ls others h = grind arith

begun-next : (ls : List Line) → BeginsAt (opening ls) (without_comments ls)
unfolding opening
begun-next [] = (refl, [], refl)
begun-next (l ∷ ls) = by_comment (is_comment (kind_of l)) refl (begun-next ls)
  where
    by_last : (t : Bool) → l.is_last ≡ t → BeginsAt (opening ls) (without_comments ls)
        → BeginsAt (cond t (ended (cond t (with_units [] l ∷ without_comments ls) (without_comments ls)))
        (opening ls)) (cond t (with_units [] l ∷ without_comments ls) (without_comments ls))
    by_last true e rest = rw e (refl, _, refl)
    by_last false e rest = rest

    by_comment : (t : Bool) → is_comment (kind_of l) ≡ t → BeginsAt (opening ls) (without_comments ls)
        → BeginsAt (opening_by (kind_of l) l ls (opening ls))
        (cond t (lines_after l (without_comments ls)) (l ∷ ls))
    by_comment false e rest = begun-kind (kind_of l) l ls refl e
    by_comment true e rest = rw (next-comment (kind_of l) l ls (opening ls) e) (by_last l.is_last refl rest)

-- the lexer's result at the start of a line
start-begins : (ls : List Line) (r : Reply LineStart) → start_line_of (Between ls) ≡ r → Begins (opening ls) r
start-begins ls r h = subst (Begins (opening ls)) h (begun-next ls)

-- The line that was begun is plain.
middle-begins : (l : Line) (ls : List Line) (r : Reply LineStart) → kind_of l ≡ PlainLine
    → start_line_of (Inside l ls) ≡ r → Begins (opening (l ∷ ls)) r
unfolding opening
middle-begins l ls r e h = grind arith

pub begins : (before : State) (r : Reply LineStart) → IsBetweenStatements before → start_line_of before ≡ r
    → Begins (opening (lines_from before)) r
begins before r comes h = grind (arith, start-begins, middle-begins)

-- the fault at a line's start, as it is answered
pub begins-badly : (before after : State) (f : LexFault) → IsBetweenStatements before
    → Answers {X = LineStart} (λ start. start) (Err f) after (start_line_of before)
    → Fails (fault.Lex f) (opening (lines_from before))
begins-badly before after lex.OutOfMemory comes h = tt
begins-badly before after (lex.BadByte spot) comes h = begins before (Err (unit_fault.BadByte spot)) comes h.0
begins-badly before after (lex.Tab spot) comes h = begins before (Err (unit_fault.Tab spot)) comes h.0
begins-badly before after (lex.BadEscape spot) comes h = grind arith

-- ---- a measure of the lines that are left

abbrev pub ahead : List Line → ℕ
ahead [] = 0
ahead (l ∷ ls) = cond l.is_last (cond (is_empty l.units) 0 1) (suc (ahead ls))

abbrev pub lines_ahead : State → ℕ
lines_ahead (Between ls) = ahead ls
lines_ahead (Inside l ls) = 0
lines_ahead (Failed f) = 0

ahead-after : (l : Line) (ls : List Line) → (l.is_last && is_empty l.units) ≡ false
    → ahead (lines_after l ls) < ahead (l ∷ ls)
ahead-after l ls h = grind arith

ahead-comments : (ls : List Line) → ahead (without_comments ls) ≤ ahead ls
ahead-comments [] = omega arith
ahead-comments (l ∷ ls) = grind (arith, ahead-comments ls)

-- whether a blank line was begun
abbrev begins_blank : Reply LineStart → Bool
begins_blank (Ok (start.Blank, s)) = true
begins_blank other = false

not_blank : {P : Type 0} (r : Reply LineStart) (after : State) → begins_blank r ≡ false
    → r ≡ Ok (start.Blank, after) → P
not_blank r after n h = absurd (false≢true (sym n ∙ ap begins_blank h))

abbrev state_in : Reply LineStart → State
state_in (Ok (x, s)) = s
state_in (Err f) = Failed f

-- the lines after a blank line
blank-kind : (k : Kind) (l : Line) (ls : List Line) (after : State)
    → begun_by k l ls ≡ Ok (start.Blank, after) → lines_ahead after < ahead (l ∷ ls)
blank-kind k l ls after h = grind arith

blank-begun : (ls : List Line) (after : State) → begun ls ≡ Ok (start.Blank, after)
    → lines_ahead after < ahead ls
blank-begun ls after h = grind arith

-- After a blank line fewer lines are left.
pub blank-falls : (before after : State)
    → Answers (λ start. start) (Ok start.Blank) after (start_line_of before)
    → lines_ahead after < lines_ahead before
blank-falls (Between ls) after h = grind (arith, blank-begun (without_comments ls) after h, ahead-comments ls)
blank-falls (Inside l ls) after h = not_blank (start_line_of (Inside l ls)) after refl h
blank-falls (Failed f) after h = not_blank (start_line_of (Failed f)) after refl h

pub begins-as : (before after : State) (got want : LineStart) → got ≡ want → IsBetweenStatements before
    → Answers (λ start. start) (Ok got) after (start_line_of before)
    → Begins (opening (lines_from before)) (Ok (want, after))
begins-as before after got want e comes h = grind (arith, begins)

pub blank-falls-as : (before after : State) (got : LineStart) → got ≡ start.Blank
    → Answers (λ start. start) (Ok got) after (start_line_of before) → lines_ahead after < lines_ahead before
blank-falls-as before after got e h = grind (arith, blank-falls)

-- ---- the code's search

pub found-end : (before after : State) → opening (lines_from before) ≡ ended (lines_from after)
    × (ls : List Line) × (after ≡ Between ls) → FindsOpening before after (Ok false)
found-end before after h = grind arith

pub found-line : (before after : State) → BeginsHere (opening (lines_from before)) after
    → FindsOpening before after (Ok true)
found-line before after h = subst (λ s. FindsOpening before s (Ok true)) (sym h.2) (h.4, h.3, refl)
