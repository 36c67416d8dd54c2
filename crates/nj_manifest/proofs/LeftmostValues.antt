-- Values along a line: `= VALUE` to its end, or the first bad unit in it.
use Rattle.std.proofs.Common.{arith, ◌≡◌, Bool, true, false, cond, Option, Some, None, Result, Ok, Err, inl}
use Rattle.std.proofs.Common.{List}
use Rattle.std.proofs.Common.{[], ◌∷◌, ◌++◌, refl, sym, ap, ◌∙◌}
use Rattle.std.specs.Option.{option_or}
use Rattle.nj_text.specs.declared.fault.UnitFault.{UnitFault}
use Rattle.nj_text.specs.declared.sign.Sign.TheVariants as sign
use Rattle.nj_text.specs.declared.spot.Spot.{Spot}
use Rattle.nj_text.specs.Units.{Meaning, TextUnit}
use Rattle.nj_text.specs.Lines.{Line, with_units, lines_after, spot_of_first}
use Rattle.nj_text.specs.Words.{is_blank, after_opening, fault_of, next_fault, first_fault, parts_of}
use Rattle.nj_text.specs.Words.{WordModel}
use Rattle.nj_text.specs.Inside.Meanings.{is_blank_meaning, opens_line_meaning}
use Rattle.nj_text.specs.Calls.{State, Between, unless_fault, value_of}
use Rattle.nj_text.specs.Inside.States.{reply}
use Rattle.nj_manifest.specs.declared.cause.Wanted.TheVariants as wanted
use Rattle.nj_manifest.specs.Faults.{Fault, bad_unit}
use Rattle.nj_manifest.specs.LineSteps.{Step, ◌>>=◌, called, expect_sign}
use Rattle.nj_manifest.specs.Statements.{equals_value}
use Rattle.nj_manifest.specs.Leftmost.{written}
use Rattle.nj_manifest.proofs.LeftmostRuns.{skip}
use Rattle.nj_manifest.proofs.LeftmostFronts.{fault-same, element-front}
use Rattle.nj_manifest.proofs.LeftmostSteps.{at, text, anything, after_name, FailsAt, bad-place, bad-kept}
use Rattle.nj_manifest.proofs.LeftmostSteps.{bad-offers, Claim, Along, Outcome, stuck, stick, arrive}
use Rattle.nj_manifest.proofs.LeftmostSigns.{sign_step, led_on, ending, equals_single}
use Rattle.nj_manifest.proofs.LeftmostTurns.{ReadTo, sign_turn}

-- ---- the first bad unit

blank_no_fault : (m : Meaning) (spot : Spot) → is_blank_meaning m ≡ true → fault_of m spot ≡ None
blank_no_fault m spot h = grind arith

opening_no_fault : (m : Meaning) (spot : Spot) → opens_line_meaning m ≡ true → fault_of m spot ≡ None
opening_no_fault m spot h = grind arith

first_of_sound : (u : TextUnit) (us : List TextUnit) → fault_of u.means u.spot ≡ None
    → first_fault us ≡ first_fault (u ∷ us)
first_of_sound u us h = sym (ap (λ (f : Option UnitFault). option_or f (first_fault us)) h)

first_after_blanks : (us : List TextUnit) → first_fault (skip us) ≡ first_fault us
first_after_blanks [] = refl
first_after_blanks (u ∷ us) = by_test (is_blank u) refl (first_after_blanks us)
  where
    by_test : (t : Bool) → is_blank u ≡ t → first_fault (skip us) ≡ first_fault us
        → first_fault (cond t (skip us) (u ∷ us)) ≡ first_fault (u ∷ us)
    by_test true e rest = rest ∙ first_of_sound u us (blank_no_fault u.means u.spot e)
    by_test false e rest = refl

first_after_opening : (us : List TextUnit) → first_fault (after_opening us) ≡ first_fault us
first_after_opening us = grind arith

first_after_sound : (used x : List TextUnit) → first_fault used ≡ None
    → first_fault (used ++ x) ≡ first_fault x
first_after_sound [] x h = refl
first_after_sound (u ∷ used) x h = grind (arith, first_after_sound used x)

first_is_next : (x : List TextUnit) (bad : UnitFault) → next_fault x ≡ Some bad → first_fault x ≡ Some bad
first_is_next x bad h = grind arith

-- the units before the first bad unit
record Sound (us : List TextUnit) (bad : UnitFault) : Type 0 where
  used : List TextUnit
  left : List TextUnit
  cut : us ≡ used ++ left
  sound : first_fault used ≡ None
  next : next_fault left ≡ Some bad

before_bad : (us : List TextUnit) (bad : UnitFault) → first_fault us ≡ Some bad → Sound us bad
before_bad [] bad h = absurd cc
before_bad (u ∷ us) bad h = by_unit (fault_of u.means u.spot) refl h (before_bad us bad)
  where
    by_unit : (f : Option UnitFault) → fault_of u.means u.spot ≡ f → option_or f (first_fault us) ≡ Some bad
        → (first_fault us ≡ Some bad → Sound us bad) → Sound (u ∷ us) bad
    by_unit (Some other) e g rest = record
        { used = []; left = u ∷ us; cut = refl; sound = refl; next = e ∙ g }
    by_unit None e g rest =
        let r = rest g in
        record {
          used = u ∷ r.used;
          left = r.left;
          cut = ap (λ (y : List TextUnit). u ∷ y) r.cut;
          sound =
              sym (first_of_sound u r.used e) ∙ r.sound;
          next = r.next;
        }

-- ---- the value

abbrev value_call : State → Step WordModel
value_call s = called (value_of s)

-- where a value begins
abbrev value_units : List TextUnit → List TextUnit
value_units us = skip (after_opening us)

abbrev value_model : List TextUnit → Line → WordModel
value_model us e = record { spot = spot_of_first (value_units us) e.end; parts = parts_of (value_units us) }

value_by : (f : Option UnitFault) (w : WordModel) (s : State) → f ≡ None
    → called (unless_fault f (reply w s)) ≡ Ok (w, s)
value_by f w s h = rw h refl

value_bad_by : (f : Option UnitFault) (w : WordModel) (s : State) (bad : UnitFault) → f ≡ Some bad
    → called (unless_fault f (reply w s)) ≡ Err (bad_unit bad)
value_bad_by f w s bad h = rw h refl

first_of_value : (us : List TextUnit) → first_fault (value_units us) ≡ first_fault us
first_of_value us = first_after_blanks (after_opening us) ∙ first_after_opening us

value_ok : (us : List TextUnit) (e : Line) (ms : List Line) → first_fault us ≡ None
    → value_call (at us e ms) ≡ Ok (value_model us e, at [] e ms)
value_ok us e ms h = value_by _ (value_model us e) (at [] e ms) (first_of_value us ∙ h)

value_bad : (us : List TextUnit) (e : Line) (ms : List Line) (bad : UnitFault) → first_fault us ≡ Some bad
    → value_call (at us e ms) ≡ Err (bad_unit bad)
value_bad us e ms bad h = value_bad_by _ (value_model us e) (at [] e ms) bad (first_of_value us ∙ h)

bad_value : (us : List TextUnit) (e : Line) (bad : UnitFault) → (s : Sound us bad)
    → FailsAt value_call us e (bad_unit bad) s.used s.left
bad_value us e bad s = record {
  cut = s.cut;
  place = bad-place s.left e bad s.next;
  fails = λ ms. value_bad us e ms bad (ap first_fault s.cut
      ∙ (first_after_sound s.used s.left s.sound ∙ first_is_next s.left bad s.next));
  refuses = λ x d ms same.
      value_bad (s.used ++ x) d ms bad (first_after_sound s.used x s.sound
      ∙ first_is_next x bad (fault-same x s.left (element-front x s.left same) ∙ s.next))
      ∙ bad-kept (with_units x d) bad;
}

-- the value, and then the end of the line
abbrev valued : {B : Type 0} → (WordModel → B) → WordModel × State → Step B
valued view v = ending (view v.0) (expect_sign sign.LineEnd wanted.Newline v.1)

value_ended : {B : Type 0} (view : WordModel → B) (us : List TextUnit) (e : Line) (ms : List Line)
    → first_fault us ≡ None → (value_call (at us e ms) >>= valued view)
    ≡ Ok (view (value_model us e), Between (lines_after e ms))
unfolding expect_sign
value_ended view us e ms h = ap (λ r. r >>= valued view) (value_ok us e ms h)

value_is : {B : Type 0} (view : WordModel → B) (w : WordModel) (r : Result State Fault)
    → ◌≡◌ {A = Step B} (ending w r >>= λ v. Ok (view v.0, v.1)) (ending (view w) r)
value_is view w r = grind arith

valued_is : {B : Type 0} (view : WordModel → B) (r : Step WordModel)
    → ◌≡◌ {A = Step B} ((r >>= λ value. ending value.0 (expect_sign sign.LineEnd wanted.Newline value.1)) >>=
    λ v. Ok (view v.0, v.1)) (r >>= valued view)
valued_is view r = grind arith

led_is : {B : Type 0} (view : WordModel → B) (r : Result State Fault)
    → ◌≡◌ {A = Step B} ((r >>= λ equals. value_call equals >>=
    λ value. ending value.0 (expect_sign sign.LineEnd wanted.Newline value.1)) >>= λ v. Ok (view v.0, v.1))
    (led_on r >>= λ c. value_call c.1 >>= valued view)
led_is view r = grind arith

-- `= VALUE`, in steps
abbrev equals_then : {B : Type 0} → (WordModel → B) → Bool × State → Step B
equals_then view c = value_call c.1 >>= valued view

equals_is : {B : Type 0} (view : WordModel → B) (s : State)
    → ◌≡◌ {A = Step B} (◌>>=◌ {B = B × State} (equals_value s) (λ v. Ok (view v.0, v.1)))
    (sign_step sign.Equals wanted.Equals s >>= equals_then view)
unfolding equals_value
equals_is view s = led_is view (expect_sign sign.Equals wanted.Equals s)

read_x : {B : Type 0} (view : WordModel → B)
    → ReadTo (λ ms. sign_step sign.Equals wanted.Equals (at (text (61 ∷ 120 ∷ [])) (written []) ms) >>=
    equals_then view)
unfolding expect_sign
read_x view = (view (value_model (text (120 ∷ [])) (written [])), λ ms. refl)

-- A line that ends with a value.
pub value_turn : {B : Type 0} {P : Claim B} {whole us : List TextUnit} (e : Line) (view : WordModel → B)
    (k : State → Step B) → ((s : State) → k s
    ≡ ◌>>=◌ {B = B × State} (equals_value s) (λ v. Ok (view v.0, v.1))) → Along P whole k after_name us
    → Outcome P whole e
value_turn {B = B} {P = P} {whole = whole} e view k so a =
    sign_turn e sign.Equals wanted.Equals anything equals_single k (equals_then view)
    (λ s. so s ∙ equals_is view s) a (61 ∷ 120 ∷ []) refl refl refl (read_x view)
    (λ p b. at_value p.left b)
  where
    at_value : (left : List TextUnit) → Along P whole (λ s. value_call s >>= valued view) anything left
        → Outcome P whole e
    at_value left b = by_fault (first_fault left) refl
      where
        by_fault : (f : Option UnitFault) → first_fault left ≡ f → Outcome P whole e
        by_fault None h = arrive e (λ s. value_call s >>= valued view) (view (value_model left e)) b
            (λ ms. value_ended view left e ms h)
        by_fault (Some bad) h =
            let s = before_bad left bad h in
            let sound = first_after_sound s.used [] s.sound in
            stuck (bad_unit bad) (stick (λ s. value_call s >>= valued view) value_call (valued view)
            (λ s. refl) b (bad_value left e bad s) [] refl (bad-offers bad [])
            (view (value_model (s.used ++ []) (written []))) (inl refl)
            (λ ms. value_ended view (s.used ++ []) (written []) ms sound))
