-- The states of a lexer, by where it is.
use Rattle.std.proofs.Common.{arith, ◌≡◌, ℕ, Bool, true, false, List, [], ◌∷◌, map, Result, refl}
use Rattle.std.proofs.Common.{sym, ap}
use Rattle.std.proofs.Common.{◌∙◌}
use Rattle.nj_text.specs.declared.spot.Spot.{Spot}
use Rattle.nj_text.specs.declared.cursor.Cursor.{Cursor}
use Rattle.nj_text.specs.declared.fault.LexFault.{LexFault}
use Rattle.nj_text.specs.declared.fault.WordFault.{WordFault}
use Rattle.nj_text.specs.declared.sign.Sign.{Sign}
use Rattle.nj_text.specs.declared.word.Word.{Word}
use Rattle.nj_text.specs.declared.word.Part.{Part}
use Rattle.nj_text.specs.Units.{OpeningJoin, TextUnit, AtStart, Within, cut}
use Rattle.nj_text.specs.Lines.{Line, before_first_line, with_units, line_spot}
use Rattle.nj_text.specs.Words.{is_blank, WordModel, word_model, part_model, after_opening}
use Rattle.nj_text.specs.Inside.Meanings.{opens_line_meaning}
use Rattle.nj_text.specs.Calls.{State, Between, Inside, Reply, after_blanks, value_at, value_of, sign_of}
use Rattle.nj_text.specs.Calls.{first_line_spot, ReturnsOrLacksMemory, skip_blanks_of, is_inside}
use Rattle.nj_text.specs.Bytes.{drop_while}
use Rattle.nj_text.specs.Inside.Scans.{units_within}
use Rattle.nj_text.specs.Inside.States.{reply, first_line, inside, lines_from, lines_within}
use Rattle.nj_text.specs.Inside.States.{StepsOrLacksMemory, FailsStep, FinishesValue, FinishesAtFault}
use Rattle.nj_text.proofs.LineStarts.{cut_has_line, IsUnsaid, unit_is_unsaid}
use Rattle.nj_text.proofs.Bridges.{spot_of_line, of_first, first_of_line, passed_by}
use Rattle.nj_text.proofs.Steps.{line, others}

abbrev HasLine : List Line → Type 0
HasLine ls = (l : Line) × (more : List Line) × (ls ≡ l ∷ more)

-- ---- places

first_spot_is : (ls : List Line) → first_line_spot ls ≡ line_spot (first_line ls)
first_spot_is ls = grind arith

pub spot_between : (spot : Spot) (bytes : List ℕ) → first_line_spot (lines_from spot bytes) ≡ spot
spot_between spot bytes = first_spot_is (lines_from spot bytes) ∙ spot_of_line AtStart spot bytes

pub spot_inside : (spot : Spot) (bytes : List ℕ) → line_spot (line spot bytes) ≡ spot
spot_inside spot bytes = spot_of_line Within spot bytes

-- ---- at a join that opens its line

abbrev opening_unit : Spot → List ℕ → TextUnit
opening_unit place joined = record { spot = place; bytes = joined; means = OpeningJoin }

abbrev opened : Spot → List ℕ → Spot → List ℕ → List Line
opened place joined spot bytes = before_first_line (opening_unit place joined) (lines_within spot bytes)

opened_is : (place : Spot) (joined : List ℕ) (spot : Spot) (bytes : List ℕ)
    → inside (opened place joined spot bytes)
    ≡ Inside (with_units (opening_unit place joined ∷ (line spot bytes).units) (line spot bytes))
    (others spot bytes)
opened_is place joined spot bytes = grind (arith, cut_has_line Within 0 spot bytes)

pub spot_opening : (place : Spot) (joined : List ℕ) (spot : Spot) (bytes : List ℕ)
    → line_spot (first_line (opened place joined spot bytes)) ≡ place
spot_opening place joined spot bytes = grind (arith, cut_has_line Within 0 spot bytes)

pub sign_opening : (want : Sign) (place : Spot) (joined : List ℕ) (spot : Spot) (bytes : List ℕ)
    → sign_of want (inside (opened place joined spot bytes))
    ≡ reply false (inside (opened place joined spot bytes))
sign_opening want place joined spot bytes = grind (arith, opened_is, line, others)

pub value_opening : (place : Spot) (joined : List ℕ) (spot : Spot) (bytes : List ℕ)
    → value_of (inside (opened place joined spot bytes))
    ≡ value_at (after_blanks (line spot bytes)) (others spot bytes)
value_opening place joined spot bytes = ap value_of (opened_is place joined spot bytes)

-- a join within a line does not open the line
opening_is_unsaid : IsUnsaid opens_line_meaning
opening_is_unsaid = grind arith

abbrev first_opens : List TextUnit → Bool
first_opens [] = false
first_opens (u ∷ us) = opens_line_meaning u.means

opens_nothing : (us : List TextUnit) → first_opens us ≡ false → after_opening us ≡ us
opens_nothing us h = grind arith

within_opens : (spot : Spot) (bytes : List ℕ) → first_opens (cut Within 0 spot bytes) ≡ false
unfolding cut
within_opens spot [] = refl
within_opens spot (b ∷ bs) = unit_is_unsaid opens_line_meaning opening_is_unsaid b bs

line_opens : (spot : Spot) (bytes : List ℕ) → after_opening (line spot bytes).units ≡ (line spot bytes).units
line_opens spot bytes = opens_nothing (line spot bytes).units
    (same (line spot bytes).units ∙ first_of_line (λ m s. opens_line_meaning m) false (λ s. refl) (λ s. refl)
    (cut Within 0 spot bytes) (cut_has_line Within 0 spot bytes) ∙ sym (same (cut Within 0 spot bytes))
    ∙ within_opens spot bytes)
  where
    same : (vs : List TextUnit) → first_opens vs
        ≡ of_first (λ m s. opens_line_meaning m) false (λ s. refl) (λ s. refl) vs
    same [] = refl
    same (v ∷ vs) = refl

pub value_inside : (spot : Spot) (bytes : List ℕ)
    → value_of (inside (lines_within spot bytes))
    ≡ value_at (after_blanks (line spot bytes)) (others spot bytes)
value_inside spot bytes = grind (arith, line, others, line_opens)

-- ---- a value that was read

finished_at_fault : (old new : State) (expected : Reply WordModel) (f : WordFault)
    (result : Result Word LexFault) → is_inside old ≡ true → FailsStep expected f
    → FinishesAtFault f old new result → ReturnsOrLacksMemory word_model result old new expected
finished_at_fault old new expected f result i e h = grind arith

pub finished_value : (old new : State) (expected : Reply WordModel) (step : Result (Word × Cursor) WordFault)
    (result : Result Word LexFault) → is_inside old ≡ true → value_of old ≡ expected
    → StepsOrLacksMemory word_model expected step → FinishesValue step old new result
    → ReturnsOrLacksMemory word_model result old new (value_of old)
finished_value old new expected step result i v e h = grind arith

pub value_between : (spot : Spot) (bytes : List ℕ) (parts : List Part) → parts ≡ []
    → value_of (Between (lines_from spot bytes))
    ≡ reply (record { spot = spot; parts = map part_model parts }) (Between (lines_from spot bytes))
value_between spot bytes parts e = grind (arith, spot_between, map)

-- ---- after blanks

pub blanks_skipped : (spot there : Spot) (bytes rest : List ℕ)
    → units_within there rest ≡ drop_while is_blank (units_within spot bytes)
    → inside (lines_within there rest) ≡ skip_blanks_of (inside (lines_within spot bytes))
blanks_skipped spot there bytes rest e = grind (arith, passed_by)
