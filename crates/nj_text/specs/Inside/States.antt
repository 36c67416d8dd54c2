-- The state of a lexer, by its position in the text.
use Rattle.std.specs.Prelude.{◌≡◌, ℕ, Bool, true, false, Option, Some, None, is_some, Result, Ok, Err, List, [], ◌∷◌, ◌++◌}
use Rattle.std.specs.List.{AllByRecursion}
use Rattle.nj_text.specs.declared.spot.Spot.{Spot}
use Rattle.nj_text.specs.declared.cursor.Cursor.{Cursor}
use Rattle.nj_text.specs.declared.fault.UnitFault.{UnitFault}
use Rattle.nj_text.specs.declared.fault.LexFault.{LexFault}
use Rattle.nj_text.specs.declared.fault.WordFault.{WordFault}
use Rattle.nj_text.specs.declared.fault.WordFault.TheVariants as word_fault
use Rattle.nj_text.specs.declared.sign.SignTaken.{SignTaken}
use Rattle.nj_text.specs.declared.sign.SignTaken.TheVariants as taken
use Rattle.nj_text.specs.declared.word.Word.{Word}
use Rattle.nj_text.specs.declared.state.State.{State as HeldState}
use Rattle.nj_text.specs.declared.state.State.TheVariants as held
use Rattle.nj_text.specs.declared.line_start.Begun.{Begun}
use Rattle.nj_text.specs.declared.line_start.Begun.TheVariants as line_start
use Rattle.nj_text.specs.Units.{TextUnit, Ordinary, OpeningJoin, AtStart, AfterSpaces, Within, first_spot, cut}
use Rattle.nj_text.specs.Inside.Scans.{advance, units_within}
use Rattle.nj_text.specs.Lines.{Line, lines_of, before_first_line, lines_after, ending_of}
use Rattle.nj_text.specs.Words.{next_fault}
use Rattle.nj_text.specs.Calls.{State, Between, Inside, Failed, Reply, unless_fault, begun, unit_of}

-- ---- replies

abbrev pub reply : {A : Type 0} → A → State → Reply A
reply x after = Ok (x, after)

abbrev pub failing : {A : Type 0} → UnitFault → Reply A
failing f = Err f

-- the result of a call within a line, where a bad unit may come next
abbrev pub unless_bad : {A : Type 0} → (Line → List Line → Reply A) → Line → List Line → Reply A
unless_bad call l ls = unless_fault (next_fault l.units) (call l ls)

-- ---- lines

abbrev pub first_line : List Line → Line
first_line [] = record { units = []; end = first_spot; is_last = true }
first_line (l ∷ ls) = l

abbrev pub other_lines : List Line → List Line
other_lines [] = []
other_lines (l ∷ ls) = ls

-- inside the first of the lines
abbrev pub inside : List Line → State
inside ls = Inside (first_line ls) (other_lines ls)

abbrev pub lines_from : Spot → List ℕ → List Line
lines_from spot bytes = lines_of (cut AtStart 0 spot bytes)

abbrev pub lines_within : Spot → List ℕ → List Line
lines_within spot bytes = lines_of (cut Within 0 spot bytes)

-- the lines at a cursor, before the first of them
abbrev pub lines_at : Cursor → List Line
lines_at c = lines_from c.spot c.rest.now

abbrev pub state_at : HeldState → Spot → List ℕ → State
state_at held.Between spot bytes = Between (lines_from spot bytes)
state_at (held.OpeningJoin place joined) spot bytes =
    inside (before_first_line (record { spot = place; bytes = joined.now; means = OpeningJoin }) (lines_within spot bytes))
state_at held.Inside spot bytes = inside (lines_within spot bytes)
state_at (held.Failed f) spot bytes = Failed f

-- how the first of the lines begins
abbrev pub BegunIs : List Line → Begun → Type 0
BegunIs ls (line_start.Start start state cursor) = begun ls ≡ reply start (state_at state cursor.spot cursor.rest.now)
BegunIs ls (line_start.Fault f) = begun ls ≡ failing f

-- some spaces at a place
abbrev pub space_units : Spot → List ℕ → List TextUnit
space_units spot [] = []
space_units spot (b ∷ bs) = record { spot = spot; bytes = b ∷ []; means = Ordinary b } ∷ space_units (advance 1 spot) bs

-- how the first line begins, after its leading spaces were skipped
abbrev pub BegunAfterSpaces : Cursor → Begun → Type 0
BegunAfterSpaces c begun =
    (spot : Spot) (b : ℕ) (bs : List ℕ)
    → AllByRecursion (λ x. x ≡ 32) (b ∷ bs)
    → BegunIs (lines_of (space_units spot (b ∷ bs) ++ cut AfterSpaces 0 c.spot c.rest.now)) begun

-- whether the units begin with the end of a line
abbrev pub ends_next : List TextUnit → Bool
ends_next [] = true
ends_next (u ∷ us) = is_some (ending_of u.means)

-- the cursor after the end of the line, if that comes next
abbrev pub EndsLine : Cursor → Option Cursor → Type 0
EndsLine c None = ends_next (units_within c.spot c.rest.now) ≡ false
EndsLine c (Some after) =
    ((first_line (lines_within c.spot c.rest.now)).units ≡ [])
    × (lines_after (first_line (lines_within c.spot c.rest.now)) (other_lines (lines_within c.spot c.rest.now))
    ≡ lines_from after.spot after.rest.now)

-- the result of a call within a line, and where it leaves the lexer
abbrev pub Steps : {X Y : Type 0} → (X → Y) → Reply Y → Result (X × Cursor) UnitFault → Type 0
Steps view expected (Ok step) = expected ≡ reply (view step.0) (inside (lines_within step.1.spot step.1.rest.now))
Steps view expected (Err f) = expected ≡ failing f

-- the same of a call that allocates
abbrev pub FailsStep : {Y : Type 0} → Reply Y → WordFault → Type 0
FailsStep expected word_fault.OutOfMemory = Unit {0}
FailsStep expected (word_fault.Unit f) = expected ≡ failing f

abbrev pub StepsOrLacksMemory : {X Y : Type 0} → (X → Y) → Reply Y → Result (X × Cursor) WordFault → Type 0
StepsOrLacksMemory view expected (Ok step) = expected ≡ reply (view step.0) (inside (lines_within step.1.spot step.1.rest.now))
StepsOrLacksMemory view expected (Err f) = FailsStep expected f

-- the line at a cursor, and the lines after it
abbrev pub line_at : Cursor → Line
line_at c = first_line (lines_within c.spot c.rest.now)

abbrev pub other_lines_at : Cursor → List Line
other_lines_at c = other_lines (lines_within c.spot c.rest.now)

-- whether a wanted sign was there
abbrev pub SignIs : Reply Bool → SignTaken → Type 0
SignIs expected (taken.No after) = expected ≡ reply false (inside (lines_within after.spot after.rest.now))
SignIs expected (taken.InLine after) = expected ≡ reply true (inside (lines_within after.spot after.rest.now))
SignIs expected (taken.LineEnd after) = expected ≡ reply true (Between (lines_from after.spot after.rest.now))
SignIs expected (taken.Fault f) = expected ≡ failing f

-- a fault that reports the given bad unit, if any
abbrev pub Reports : Result Word LexFault → Option UnitFault → Type 0
Reports (Ok found) unit = ⊥
Reports (Err f) unit = unit_of f ≡ unit

-- the lexer after the reading of a value in a line
abbrev pub FinishesAtFault : WordFault → (old new : State) → Result Word LexFault → Type 0
FinishesAtFault word_fault.OutOfMemory old new result = Reports result None × (new ≡ old)
FinishesAtFault (word_fault.Unit f) old new result = Reports result (Some f) × (new ≡ Failed f)

abbrev pub FinishesValue : Result (Word × Cursor) WordFault → (old new : State) → Result Word LexFault → Type 0
FinishesValue (Ok step) old new result = (result ≡ Ok step.0) × (new ≡ inside (lines_within step.1.spot step.1.rest.now))
FinishesValue (Err f) old new result = FinishesAtFault f old new result
