-- Signs along a line, and its end.
use Rattle.std.proofs.Common.{arith, ◌≡◌, ℕ, Bool, true, false, cond, eqb, Option, Some, None, Result, Ok}
use Rattle.std.proofs.Common.{Err, List}
use Rattle.std.proofs.Common.{[], ◌∷◌, ◌++◌, refl, sym, ap, ◌∙◌, append_assoc}
use Rattle.nj_text.specs.declared.fault.UnitFault.{UnitFault}
use Rattle.nj_text.specs.declared.sign.Sign.{Sign}
use Rattle.nj_text.specs.declared.sign.Sign.TheVariants as sign
use Rattle.nj_text.specs.Bytes.{begins_with}
use Rattle.nj_text.specs.Units.{TextUnit, is_ordinary_in}
use Rattle.nj_text.specs.Lines.{Line, with_units, lines_after, spot_of_first}
use Rattle.nj_text.specs.Words.{is_blank, begins_with_byte, next_fault}
use Rattle.nj_text.specs.Calls.{State, Between, unless_fault, is_empty, is_sign, state_after_sign}
use Rattle.nj_text.specs.Inside.States.{reply}
use Rattle.nj_text.proofs.Lists.{AllIn}
use Rattle.nj_manifest.specs.declared.cause.SyntaxCause.TheVariants as cause
use Rattle.nj_manifest.specs.declared.cause.Wanted.{Wanted}
use Rattle.nj_manifest.specs.declared.cause.Wanted.TheVariants as wanted
use Rattle.nj_manifest.specs.Faults.{Fault, Placed, bad_unit}
use Rattle.nj_manifest.specs.LineSteps.{Step, ◌>>=◌, called, expect_sign}
use Rattle.nj_manifest.specs.Leftmost.{element, written, offers}
use Rattle.nj_manifest.proofs.Choices.{if_there}
use Rattle.nj_manifest.proofs.LeftmostRuns.{none_passed, skip, skip_stops, skip_gap, gap_of, gap_passes}
use Rattle.nj_manifest.proofs.LeftmostRuns.{gap_cut, no_other, not_byte}
use Rattle.nj_manifest.proofs.LeftmostFronts.{fault-same, sign-same, element-front}
use Rattle.nj_manifest.proofs.LeftmostSteps.{at, blank_no_pipe, Fits, fits-alone, fits-gap, Passes, FailsAt}
use Rattle.nj_manifest.proofs.LeftmostSteps.{bad-place, bad-kept, bad-offers, ordinary_no_fault, Claim, Along}
use Rattle.nj_manifest.proofs.LeftmostSteps.{Outcome, stuck, stick, arrive, OfWanted}
use Rattle.nj_manifest.proofs.LeftmostNames.{no_blank_there}

-- a sign as a step, which returns no value
abbrev pub led_on : Result State Fault → Step Bool
led_on r = r >>= λ t. Ok (true, t)

abbrev pub sign_step : Sign → Wanted → State → Step Bool
sign_step want miss s = led_on (expect_sign want miss s)

-- a value, once the line has ended
abbrev pub ending : {B : Type 0} → B → Result State Fault → Step B
ending value r = r >>= λ end. Ok (value, end)

-- by the fault there, whether the sign is there, and where the lexer is then
abbrev sign_by : Wanted → Option UnitFault → Bool → (there other : State) → Result State Fault
sign_by miss f t there other = called (unless_fault f (cond t (reply true there) (reply false other))) >>=
    λ t. if_there miss t.0 t.1

abbrev sign_here : Sign → Wanted → List TextUnit → Line → List Line → Result State Fault
sign_here want miss us e ms = sign_by miss (next_fault us) (is_sign want us)
    (state_after_sign want (with_units us e) ms) (at us e ms)

after_is_here : (want : Sign) (miss : Wanted) (us : List TextUnit) (e : Line) (ms : List Line)
    → expect_sign want miss (at us e ms) ≡ sign_here want miss (skip us) e ms
unfolding expect_sign
after_is_here want miss us e ms = refl

sign_after : (want : Sign) (miss : Wanted) (gap x : List TextUnit) (e : Line) (ms : List Line)
    → AllIn is_blank gap → skip x ≡ x → expect_sign want miss (at (gap ++ x) e ms)
    ≡ sign_here want miss x e ms
sign_after want miss gap x e ms h n = grind (arith, after_is_here, skip_gap)

-- blanks before a sign do not matter
pub sign_skips : (want : Sign) (miss : Wanted) (gap x : List TextUnit) (e : Line) (ms : List Line)
    → AllIn is_blank gap → expect_sign want miss (at (gap ++ x) e ms) ≡ expect_sign want miss (at x e ms)
sign_skips want miss gap x e ms h = grind (arith, after_is_here, skip_gap)

sign_ok : (miss : Wanted) (f : Option UnitFault) (t : Bool) (there there' other : State) → f ≡ None → t ≡ true
    → there ≡ there' → sign_by miss f t there other ≡ Ok there'
sign_ok miss f t there there' other e g h = rw (e, g, h) refl

sign_bad : (miss : Wanted) (f : Option UnitFault) (bad : UnitFault) (t : Bool) (there other : State)
    → f ≡ Some bad → sign_by miss f t there other ≡ Err (bad_unit bad)
sign_bad miss f bad t there other e = rw e refl

sign_none : (miss : Wanted) (f : Option UnitFault) (t : Bool) (there : State) (us : List TextUnit) (e : Line)
    (ms : List Line) → f ≡ None → t ≡ false
    → sign_by miss f t there (at us e ms) ≡ Err (Placed (spot_of_first us e.end) (cause.Expected miss))
sign_none miss f t there us e ms h g = rw (h, g) refl

step_ok : (r : Result State Fault) (s : State) → r ≡ Ok s → led_on r ≡ Ok (true, s)
step_ok r s h = rw h refl

step_bad : (r : Result State Fault) (f : Fault) → r ≡ Err f → led_on r ≡ Err f
step_bad r f h = rw h refl

-- ---- where a sign is absent

there_too : (us x : List TextUnit) → element x ≡ element (skip us) → skip x ≡ x
there_too us x h = none_passed is_blank x (no_blank_there us x h)

pub bad_before_sign : (want : Sign) (miss : Wanted) (us : List TextUnit) (e : Line) (bad : UnitFault)
    → next_fault (skip us) ≡ Some bad → FailsAt (sign_step want miss) us e (bad_unit bad) (gap_of us)
    (skip us)
bad_before_sign want miss us e bad f = grind (
  arith,
  gap_cut,
  bad-place,
  skip,
  step_bad,
  after_is_here,
  sign_bad,
  sign_after,
  gap_of,
  gap_passes,
  there_too,
  fault-same,
  element-front,
  bad-kept,
)

pub no_sign_there : (want : Sign) (miss : Wanted) (us : List TextUnit) (e : Line)
    → next_fault (skip us) ≡ None → is_sign want (skip us) ≡ false
    → FailsAt (sign_step want miss) us e (Placed (spot_of_first (skip us) e.end) (cause.Expected miss))
    (gap_of us) (skip us)
no_sign_there want miss us e f g = grind (
  arith,
  gap_cut,
  step_bad,
  after_is_here,
  sign_none,
  skip,
  element-front,
  sign_after,
  gap_of,
  gap_passes,
  there_too,
  fault-same,
  sign-same,
)

-- ---- signs of one unit

pub record IsSingle (want : Sign) : Type 0 where
  pub byte : ℕ
  pub no_pipe : eqb 124 byte ≡ false
  pub none : is_sign want [] ≡ false
  pub one : (u : TextUnit) (x : List TextUnit)
      → is_sign want (u ∷ x) ≡ is_ordinary_in (λ c. eqb c byte) u.means
  pub remainder : (u : TextUnit) (x : List TextUnit) (e : Line) (ms : List Line)
      → state_after_sign want (with_units (u ∷ x) e) ms ≡ at x e ms

pub colon_single : IsSingle sign.Colon
colon_single = record {
  byte = 58;
  no_pipe = refl;
  none = refl;
  one = λ u x. refl;
  remainder =
      λ u x e ms. refl;
}

pub equals_single : IsSingle sign.Equals
equals_single = record {
  byte = 61;
  no_pipe = refl;
  none = refl;
  one = λ u x. refl;
  remainder =
      λ u x e ms. refl;
}

pub data SignSeen (want : Sign) (miss : Wanted) (t t' : List TextUnit → Bool) (us : List TextUnit)
    (e : Line) : Type 0 where
  there : (passes : Passes (sign_step want miss) t t' us) → SignSeen want miss t t' us e
  missing : (fault : Fault) (of : OfWanted miss fault)
      (here : FailsAt (sign_step want miss) us e fault (gap_of us) (skip us)) → SignSeen want miss t t' us e

no_unit : (want : Sign) → IsSingle want → is_sign want [] ≡ true → ⊥
no_unit want s h = grind arith

passes_sign : (want : Sign) (miss : Wanted) (t t' : List TextUnit → Bool) (us : List TextUnit) → IsSingle want
    → (u : TextUnit) (left : List TextUnit) → skip us ≡ u ∷ left → is_sign want (u ∷ left) ≡ true
    → Passes (sign_step want miss) t t' us
passes_sign want miss t t' us s u left r h =
    let is = sym (s.one u left) ∙ h in
    let blank : is_blank u ≡ false = ap (λ (y : List TextUnit). begins_with is_blank y) (sym r)
    ∙ skip_stops us in
    let cut : us ≡ (gap_of us ++ u ∷ []) ++ left =
    gap_cut us ∙ (ap (λ (y : List TextUnit). gap_of us ++ y) r
    ∙ sym (append_assoc (gap_of us) (u ∷ []) left)) in
    record {
      used = gap_of us ++ u ∷ [];
      left = left;
      value = true;
      cut = cut;
      goes = λ x d ms fit.
          step_ok _ _ (ap (λ (y : List TextUnit). expect_sign want miss (at y d ms))
          (append_assoc (gap_of us) (u ∷ []) x)
          ∙ (sign_after want miss (gap_of us) (u ∷ x) d ms (gap_passes us)
          (none_passed is_blank (u ∷ x) blank)
          ∙ sign_ok miss _ _ _ _ _ (ordinary_no_fault (λ c. eqb c s.byte) u.means u.spot is) (s.one u x ∙ is)
          (s.remainder u x d ms)));
      settled = λ x fit. settled_by (gap_of us) (gap_passes us) x cut;
    }
  where
    no_pipe : is_ordinary_in (λ c. eqb c s.byte) u.means ≡ true → begins_with_byte 124 (u ∷ []) ≡ false
    no_pipe i = no_other (λ c. eqb c s.byte) (is_ordinary_in (λ c. eqb c 124))
        (not_byte (λ c. eqb c s.byte) 124 s.no_pipe) u.means i

    settled_by : (gap : List TextUnit) → AllIn is_blank gap → (x : List TextUnit)
        → us ≡ (gap ++ u ∷ []) ++ left → Fits t us ((gap ++ u ∷ []) ++ x)
    settled_by [] a x c = fits-alone t us u [] left x (no_pipe (sym (s.one u left) ∙ h)) c
    settled_by (v ∷ gap) a x c = fits-alone t us v (gap ++ u ∷ []) left x (blank_no_pipe v.means a.0) c

pub sign_seen : (want : Sign) (miss : Wanted) (t t' : List TextUnit → Bool) (us : List TextUnit) (e : Line)
    → IsSingle want → SignSeen want miss t t' us e
sign_seen want miss t t' us e s = by_fault (next_fault (skip us)) refl
  where
    by_units : (r : List TextUnit) → skip us ≡ r → is_sign want r ≡ true → SignSeen want miss t t' us e
    by_units [] r h = absurd (no_unit want s h)
    by_units (u ∷ left) r h = there (passes_sign want miss t t' us s u left r h)

    by_sign : (b : Bool) → is_sign want (skip us) ≡ b → next_fault (skip us) ≡ None
        → SignSeen want miss t t' us e
    by_sign true h f = by_units (skip us) refl h
    by_sign false h f = missing (Placed (spot_of_first (skip us) e.end) (cause.Expected miss)) (λ bytes h. h)
        (no_sign_there want miss us e f h)

    by_fault : (f : Option UnitFault) → next_fault (skip us) ≡ f → SignSeen want miss t t' us e
    by_fault None f = by_sign (is_sign want (skip us)) refl f
    by_fault (Some bad) f = missing (bad_unit bad) (λ bytes h. bad-offers bad bytes)
        (bad_before_sign want miss us e bad f)

-- ---- the end of the line

-- the end where nothing but blanks is left
end_there : (miss : Wanted) (gap : List TextUnit) (e : Line) (ms : List Line) → AllIn is_blank gap
    → expect_sign sign.LineEnd miss (at (gap ++ []) e ms) ≡ Ok (Between (lines_after e ms))
end_there miss gap e ms h = sign_after sign.LineEnd miss gap [] e ms h refl

end_here : (miss : Wanted) (us : List TextUnit) (e : Line) (ms : List Line) → skip us ≡ []
    → expect_sign sign.LineEnd miss (at us e ms) ≡ Ok (Between (lines_after e ms))
end_here miss us e ms h = grind (arith, after_is_here)

with_value : {B : Type 0} (r : Result State Fault) (value : B)
    → ending value r ≡ (led_on r >>= λ x. Ok (value, x.1))
with_value r value = grind arith

ended : {B : Type 0} (r : Result State Fault) (s : State) (value : B) → r ≡ Ok s
    → ending value r ≡ Ok (value, s)
ended r s value h = rw h refl

-- A reading that ends with its line.
pub finish : {B : Type 0} {P : Claim B} {whole : List TextUnit} {t : List TextUnit → Bool}
    {us : List TextUnit} (k : State → Step B) (value : B) (e : Line)
    → ((s : State) → k s ≡ ending value (expect_sign sign.LineEnd wanted.Newline s)) → Along P whole k t us
    → t [] ≡ true
    → Outcome P whole e
finish {B = B} {P = P} {whole = whole} {t = t} {us = us} k value e so a empty =
    by_fault (next_fault (skip us)) refl
  where
    stick_here : (fault : Fault) → offers fault [] ≡ true
        → FailsAt (sign_step sign.LineEnd wanted.Newline) us e fault (gap_of us) (skip us) → Outcome P whole e
    stick_here fault o n =
        stuck fault (stick k (sign_step sign.LineEnd wanted.Newline) (λ x. Ok (value, x.1))
        (λ s. so s ∙ with_value (expect_sign sign.LineEnd wanted.Newline s) value) a n [] refl o value
        (fits-gap t us [] empty)
        (λ ms. so (at (gap_of us ++ []) (written []) ms)
        ∙ ended _ _ value (end_there wanted.Newline (gap_of us) (written []) ms (gap_passes us))))

    by_units : (r : List TextUnit) → skip us ≡ r → next_fault (skip us) ≡ None → Outcome P whole e
    by_units [] r f = arrive e k value a (λ ms. so (at us e ms)
        ∙ ended _ _ value (end_here wanted.Newline us e ms r))
    by_units (u ∷ left) r f = stick_here (Placed (spot_of_first (skip us) e.end)
        (cause.Expected wanted.Newline)) refl
        (no_sign_there sign.LineEnd wanted.Newline us e f (ap is_empty r))

    by_fault : (f : Option UnitFault) → next_fault (skip us) ≡ f → Outcome P whole e
    by_fault None f = by_units (skip us) refl f
    by_fault (Some bad) f = stick_here (bad_unit bad) (bad-offers bad [])
        (bad_before_sign sign.LineEnd wanted.Newline us e bad f)
