-- Values and bindings: the readings to the end of a line, and the forms of the grammar.
use Rattle.std.proofs.Common.{arith, ◌≡◌, Bool, true, false, cond, Option, None, Ok, List, [], ◌∷◌}
use Rattle.std.proofs.Common.{◌++◌, refl}
use Rattle.std.proofs.Common.{sym, ap, subst, ◌∙◌, append_assoc}
use Rattle.nj_text.specs.declared.fault.UnitFault.{UnitFault}
use Rattle.nj_text.specs.declared.sign.Sign.TheVariants as sign
use Rattle.nj_text.specs.declared.spot.Spot.{Spot}
use Rattle.nj_text.specs.Bytes.{begins_with}
use Rattle.nj_text.specs.Units.{TextUnit}
use Rattle.nj_text.specs.Lines.{Line, spot_of_first, lines_after}
use Rattle.nj_text.specs.Words.{WordModel, opens_line, after_opening, first_fault, parts_of}
use Rattle.nj_text.specs.Calls as calls
use Rattle.nj_text.specs.Inside.States.{reply}
use Rattle.nj_text.specs.Calls.{State, Between, value_of}
use Rattle.nj_manifest.specs.declared.cause.Wanted.TheVariants as wanted
use Rattle.nj_manifest.specs.LineSteps.{Step, called, expect_sign}
use Rattle.nj_manifest.specs.Statements.{equals_value}
use Rattle.nj_manifest.specs.Grammar.{is_opening, SignForm, ValueForm}
use Rattle.nj_manifest.proofs.Framing.{bind-ok, after-is, value-is}
use Rattle.nj_manifest.proofs.FormsGaps.{skip, skip_gap, skip_stops, gap_of, gap_passes, gap_cut}
use Rattle.nj_manifest.proofs.FormsTokens.{within, after-form, after-read, end-form, end-read}

-- the join that opens the line, if any
pub record Opening (us opening others : List TextUnit) : Type 0 where
  pub cut : us ≡ opening ++ others
  pub opens : is_opening opening ≡ true
  pub longest : opening ≡ [] → begins_with opens_line us ≡ false

opening_here : (us : List TextUnit) → (opening : List TextUnit) × Opening us opening (after_opening us)
opening_here [] = ([], record { cut = refl; opens = refl; longest = λ e. refl })
opening_here (u ∷ us) = by_test (opens_line u) refl
  where
    by_test : (t : Bool) → opens_line u ≡ t
        → (opening : List TextUnit) × Opening (u ∷ us) opening (cond t us (u ∷ us))
    by_test true e = (u ∷ [], record { cut = refl; opens = e; longest = λ g. absurd (some_is_none g) })
      where
        some_is_none : u ∷ [] ≡ [] → ⊥
        some_is_none g = absurd cc
    by_test false e = ([], record { cut = refl; opens = refl; longest = λ g. e })

no_opening : (us : List TextUnit) → begins_with opens_line us ≡ false → after_opening us ≡ us
no_opening us h = grind arith

opening_passed : (us opening others : List TextUnit) → Opening us opening others → after_opening us ≡ others
opening_passed us opening others o = grind arith

-- ---- values

-- the result of a call, by its parts
abbrev value_by : Line → List Line → Option UnitFault → List TextUnit → Step WordModel
value_by l ls f us = called (calls.unless_fault f
    (reply (record { spot = spot_of_first us l.end; parts = parts_of us }) (within l ls [])))

value_by-read : (l : Line) (ls : List Line) (f : Option UnitFault) (us : List TextUnit) (value : WordModel)
    (s : State) → value_by l ls f us ≡ Ok (value, s)
    → (f ≡ None) × (value ≡ record { spot = spot_of_first us l.end; parts = parts_of us })
    × (s ≡ within l ls [])
value_by-read l ls f us value s h = grind arith

-- A value that is read has the form of a value.
pub value-form : (l : Line) (ls : List Line) (us : List TextUnit) (value : WordModel) (s : State)
    → called (value_of (within l ls us)) ≡ Ok (value, s) → ValueForm us l.end value × (s ≡ within l ls [])
value-form l ls us value s h =
    let vs = after_opening us in
    let opening = opening_here us in
    let read = value_by-read l ls (first_fault (skip vs)) (skip vs) value s h in (
      record {
        opening = opening.0;
        gap = gap_of vs;
        run = skip vs;
        cut = opening.1.cut ∙ ap (λ (us : List TextUnit). opening.0 ++ us) (gap_cut vs)
            ∙ sym (append_assoc opening.0 (gap_of vs) (skip vs));
        opens = opening.1.opens;
        longest_opening = opening.1.longest;
        blanks = gap_passes vs;
        longest = skip_stops vs;
        good = read.0;
        place = ap (λ (w : WordModel). w.spot) read.1;
        parts = ap (λ (w : WordModel). w.parts) read.1;
      },
      read.2,
    )

same_value : (value : WordModel) (spot : Spot) (run : List TextUnit) → value.spot ≡ spot
    → value.parts ≡ parts_of run → record { spot = spot; parts = parts_of run } ≡ value
same_value value spot run s p = rw (← s, ← p) refl

-- A value in its form is read.
pub value-read : (l : Line) (ls : List Line) (us : List TextUnit) (value : WordModel)
    → ValueForm us l.end value → called (value_of (within l ls us)) ≡ Ok (value, within l ls [])
value-read l ls us value f = grind (arith, opening_passed, append_assoc, skip_gap, within, same_value)

-- ---- `= VALUE`

equals_ends : sign.Equals ≡ sign.LineEnd → ⊥
equals_ends e = absurd cc

pub equals_value-form : (l : Line) (ls : List Line) (us : List TextUnit) (value : WordModel) (s : State)
    → equals_value (within l ls us) ≡ Ok (value, s)
    → (rest : List TextUnit) × SignForm sign.Equals us rest × ValueForm rest l.end value
    × (s ≡ Between (lines_after l ls))
unfolding equals_value
equals_value-form l ls us value s h =
    let equals = bind-ok (expect_sign sign.Equals wanted.Equals (within l ls us)) _ (value, s) h in
    let read = bind-ok (called (value_of equals.0)) _ (value, s) equals.2 in
    let end = bind-ok (expect_sign sign.LineEnd wanted.Newline read.0.1) (λ end. Ok (read.0.0, end))
    (value, s) read.2 in
    let it = after-form sign.Equals wanted.Equals l ls us equals.0 equals_ends equals.1 in
    let same = value-is read.0.0 end.0 (value, s) end.2 in
    let there = value-form l ls it.0 read.0.0 read.0.1
    (ap (λ (t : State). called (value_of t)) (sym it.2) ∙ read.1) in
    let ended = end-form wanted.Newline l ls [] end.0
    (ap (expect_sign sign.LineEnd wanted.Newline) (sym there.1) ∙ end.1) in (
      it.0,
      it.1,
      subst (λ (v : WordModel). ValueForm it.0 l.end v) same there.0,
      sym (after-is read.0.0 end.0 (value, s) end.2) ∙ ended.1,
    )

pub equals_value-read : (l : Line) (ls : List Line) (us rest : List TextUnit) (value : WordModel)
    → SignForm sign.Equals us rest → ValueForm rest l.end value
    → equals_value (within l ls us) ≡ Ok (value, Between (lines_after l ls))
unfolding equals_value
equals_value-read l ls us rest value e f = grind (
  arith,
  after-read sign.Equals wanted.Equals l ls us rest equals_ends e,
  value-read l ls rest value f,
  end-read wanted.Newline l ls [] refl,
)
