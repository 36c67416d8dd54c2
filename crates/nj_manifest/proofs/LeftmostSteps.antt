-- Reading on along a line: where a reading passes, where it fails, and the consequences of both for
-- a whole line.
use Rattle.std.proofs.Common.{arith, ◌≡◌, ℕ, Bool, true, false, ◌||◌, ◌==◌, eqb, Some, None, Result}
use Rattle.std.proofs.Common.{Ok, Err}
use Rattle.std.proofs.Common.{◌⊎◌, inl, inr, List, [], ◌∷◌, ◌++◌, map, refl, sym, ap, subst, ◌∙◌}
use Rattle.std.proofs.Common.{append_assoc}
use Rattle.std.proofs.lemmas.Bool.{eqb-true}
use Rattle.nj_text.specs.declared.fault.UnitFault.{UnitFault}
use Rattle.nj_text.specs.declared.fault.UnitFault.TheVariants as lex
use Rattle.nj_text.specs.declared.spot.Spot.{Spot}
use Rattle.nj_text.specs.Bytes.{is_space, drop_while, begins_with}
use Rattle.nj_text.specs.Units.{Meaning, Ordinary, TextUnit, is_ordinary_in}
use Rattle.nj_text.specs.Lines.{Line, with_units, lines_after, spot_of_first}
use Rattle.nj_text.specs.Words.{is_blank, begins_with_byte, fault_of, next_fault}
use Rattle.nj_text.specs.Inside.Meanings.{is_blank_meaning}
use Rattle.nj_text.specs.Calls.{State, Between, Inside, fault_spot}
use Rattle.nj_text.proofs.Lists.{AllIn}
use Rattle.nj_manifest.specs.declared.cause.Wanted.{Wanted}
use Rattle.nj_manifest.specs.Faults.{Fault, bad_unit}
use Rattle.nj_manifest.specs.LineSteps.{Step, ◌>>=◌}
use Rattle.nj_manifest.specs.Leftmost.{element, written_unit, written, are_plain, NamesThePlaceOf, met_before}
use Rattle.nj_manifest.specs.Leftmost.{offers_next, offers}
use Rattle.nj_manifest.proofs.LeftmostRuns.{gap_of, skip, gap_passes, gap_cut}
use Rattle.nj_manifest.proofs.LeftmostFronts.{front, front-append, element-front}

-- the lexer within a line, before the given units
abbrev pub at : List TextUnit → Line → List Line → State
at us e ms = Inside (with_units us e) ms

-- the units of bytes that stand for themselves
abbrev pub text : List ℕ → List TextUnit
text bytes = map written_unit bytes

-- ---- texts that may be written after a front

-- nothing, or an ordinary byte that passes
abbrev pub opens : (ℕ → Bool) → List TextUnit → Bool
opens t [] = true
opens t (u ∷ us) = is_ordinary_in t u.means

abbrev pub is_colon : ℕ → Bool
is_colon b = b == 58

abbrev pub is_space_or_colon : ℕ → Bool
is_space_or_colon b = b == 32 || b == 58

abbrev pub is_separator : ℕ → Bool
is_separator b = b == 32 || b == 58 || b == 61

-- after words; after a word; after a name
abbrev pub after_words : List TextUnit → Bool
after_words us = opens is_colon us

abbrev pub after_word : List TextUnit → Bool
after_word us = opens is_space_or_colon us

abbrev pub after_name : List TextUnit → Bool
after_name us = opens is_separator us

abbrev pub anything : List TextUnit → Bool
anything us = true

pub colon_is : (Q : ℕ → Type 0) → Q 58 → (b : ℕ) → is_colon b ≡ true → Q b
colon_is Q q b h = subst Q (sym (eqb-true b 58 h)) q

pub space_or_colon_is : (Q : ℕ → Type 0) → Q 32 → Q 58 → (b : ℕ) → is_space_or_colon b ≡ true → Q b
space_or_colon_is h p q b h1 = grind arith

pub separator_is : (Q : ℕ → Type 0) → Q 32 → Q 58 → Q 61 → (b : ℕ) → is_separator b ≡ true → Q b
separator_is h p q r b h1 = grind arith

pub opens-none : (t : ℕ → Bool) (test : Meaning → Bool) → ((b : ℕ) → t b ≡ true → test (Ordinary b) ≡ false)
    → (us : List TextUnit) → opens t us ≡ true → begins_with (λ u. test u.means) us ≡ false
opens-none t test f us h = grind arith

ordinary-more : (t t' : ℕ → Bool) → ((b : ℕ) → t b ≡ true → t' b ≡ true) → (m : Meaning)
    → is_ordinary_in t m ≡ true → is_ordinary_in t' m ≡ true
ordinary-more t h f m h1 = grind arith

pub opens-more : (t t' : ℕ → Bool) → ((b : ℕ) → t b ≡ true → t' b ≡ true) → (us : List TextUnit)
    → opens t us ≡ true → opens t' us ≡ true
opens-more t h f us h1 = grind arith

pub ordinary_no_fault : (t : ℕ → Bool) (m : Meaning) (spot : Spot) → is_ordinary_in t m ≡ true
    → fault_of m spot ≡ None
ordinary_no_fault t m spot h = grind arith

pub opens-no_fault : (t : ℕ → Bool) (us : List TextUnit) → opens t us ≡ true → next_fault us ≡ None
opens-no_fault t us h = grind arith

-- ---- units that come here in place of others

-- a string that may be written, or units that are seen as the given units are
abbrev pub Fits : (List TextUnit → Bool) → List TextUnit → List TextUnit → Type 0
Fits t us x = (t x ≡ true) ⊎ (front x ≡ front us)

-- the tests that a text passes as the units here do
pub by_fits : {t : List TextUnit → Bool} (us x : List TextUnit) (p : List TextUnit → Bool)
    → ((y : List TextUnit) → t y ≡ true → p y ≡ false)
    → ((y : List TextUnit) → front y ≡ front us → p y ≡ p us) → p us ≡ false → Fits t us x → p x ≡ false
by_fits us x p f g h h1 = grind arith

pub fits-alone : (t : List TextUnit → Bool) (us : List TextUnit) (u : TextUnit) (used left x : List TextUnit)
    → begins_with_byte 124 (u ∷ []) ≡ false → us ≡ (u ∷ used) ++ left → Fits t us ((u ∷ used) ++ x)
fits-alone t us u used left x h e = grind arith

pub blank_no_pipe : (m : Meaning) → is_blank_meaning m ≡ true → is_ordinary_in (λ c. eqb c 124) m ≡ false
blank_no_pipe m h = grind arith

fits-blanks : (t : List TextUnit → Bool) (us gap left x : List TextUnit) → AllIn is_blank gap
    → us ≡ gap ++ left → t x ≡ true → Fits t us (gap ++ x)
fits-blanks t us [] left x h e g = inl g
fits-blanks t us (u ∷ gap) left x h e g = fits-alone t us u gap left x (blank_no_pipe u.means h.0) e

pub fits-gap : (t : List TextUnit → Bool) (us x : List TextUnit) → t x ≡ true → Fits t us (gap_of us ++ x)
fits-gap t us x g = fits-blanks t us (gap_of us) (skip us) x (gap_passes us) (gap_cut us) g

-- ---- one reading

-- It passes some units and is then after them, whatever follows that fits.
pub record Passes {A : Type 0} (f : State → Step A) (t t' : List TextUnit → Bool) (us : List TextUnit) : Type
    0 where
  pub used : List TextUnit
  pub left : List TextUnit
  pub value : A
  pub cut : us ≡ used ++ left
  pub goes : (x : List TextUnit) (e : Line) (ms : List Line) → Fits t' left x
      → f (at (used ++ x) e ms) ≡ Ok (value, at x e ms)
  pub settled : (x : List TextUnit) → Fits t' left x → Fits t us (used ++ x)

-- It fails after some units, and so with each rest that begins with the same element.
pub record FailsAt {A : Type 0} (f : State → Step A) (us : List TextUnit) (e : Line) (fault : Fault)
    (used left : List TextUnit) : Type 0 where
  pub cut : us ≡ used ++ left
  pub place : NamesThePlaceOf fault (with_units left e)
  pub fails : (ms : List Line) → f (at us e ms) ≡ Err fault
  pub refuses : (x : List TextUnit) (d : Line) (ms : List Line) → element x ≡ element left
      → f (at (used ++ x) d ms) ≡ Err (met_before (with_units x d) fault)

-- the place of the first of the units, if that unit is bad
pub fault-place : (us : List TextUnit) (end : Spot) (f : UnitFault) → next_fault us ≡ Some f
    → fault_spot f ≡ spot_of_first us end
fault-place us end f h = grind arith

-- a bad unit names the place of the first of the units
pub bad-place : (us : List TextUnit) (e : Line) (bad : UnitFault) → next_fault us ≡ Some bad
    → NamesThePlaceOf (bad_unit bad) (with_units us e)
bad-place us e bad h = grind arith

-- it keeps its place
pub bad-kept : {A : Type 0} (l : Line) (bad : UnitFault)
    → ◌≡◌ {A = Result A Fault} (Err (bad_unit bad)) (Err (met_before l (bad_unit bad)))
bad-kept l bad = grind arith

-- it names no element as expected
pub bad-offers : (bad : UnitFault) (bytes : List ℕ) → offers (bad_unit bad) bytes ≡ true
bad-offers bad bytes = grind arith

-- A text that begins with the wanted element begins with an element that the fault expects.
abbrev pub OfWanted : Wanted → Fault → Type 0
OfWanted want fault = (bytes : List ℕ) → offers_next want (drop_while is_space bytes) ≡ true
    → offers fault bytes ≡ true

-- ---- a whole line

-- the description of a line's reading: its units, its end, the lines after it, and the reading
abbrev pub Claim : Type 0 → Type 1
Claim B = List TextUnit → Line → List Line → Step B → Type 0

-- The reading of the whole continues from here with k.
pub record Along {B : Type 0} (P : Claim B) (whole : List TextUnit) (k : State → Step B)
    (t : List TextUnit → Bool) (us : List TextUnit) : Type 0 where
  pub begun : List TextUnit
  pub cut : whole ≡ begun ++ us
  pub goes : (x : List TextUnit) (e : Line) (ms : List Line) → Fits t us x
      → P (begun ++ x) e ms (k (at x e ms))

-- The reading of the whole fails where no element like the given one helps, and some text does.
pub record Stuck {B : Type 0} (P : Claim B) (whole : List TextUnit) (e : Line) (fault : Fault) : Type 0 where
  pub begun : List TextUnit
  pub left : List TextUnit
  pub cut : whole ≡ begun ++ left
  pub place : NamesThePlaceOf fault (with_units left e)
  pub fails : (ms : List Line) → P whole e ms (Err fault)
  pub refuses : (x : List TextUnit) (d : Line) (ms : List Line) → element x ≡ element left
      → P (begun ++ x) d ms (Err (met_before (with_units x d) fault))
  pub bytes : List ℕ
  pub plain : are_plain bytes ≡ true
  pub offered : offers fault bytes ≡ true
  pub value : B
  pub some : (ms : List Line) → P (begun ++ text bytes) (written []) ms (Ok (value, Between ms))

pub data Outcome {B : Type 0} (P : Claim B) (whole : List TextUnit) (e : Line) : Type 0 where
  stuck : (fault : Fault) (here : Stuck P whole e fault) → Outcome P whole e
  through : (value : B) (so : (ms : List Line) → P whole e ms (Ok (value, Between (lines_after e ms))))
      → Outcome P whole e

pub begin : {B : Type 0} (P : Claim B) (k : State → Step B) (t : List TextUnit → Bool) (us : List TextUnit)
    → ((x : List TextUnit) (e : Line) (ms : List Line) → Fits t us x → P x e ms (k (at x e ms)))
    → Along P us k t us
begin P k t us h = record { begun = []; cut = refl; goes = h }

pub pass : {A B : Type 0} {P : Claim B} {whole : List TextUnit} {t t' : List TextUnit → Bool}
    {us : List TextUnit} (k : State → Step B) (f : State → Step A) (g : A × State → Step B)
    → ((s : State) → k s ≡ (f s >>= g)) → Along P whole k t us
    → (p : Passes f t t' us) → Along P whole (λ s. g (p.value, s)) t' p.left
pass {P = P} {whole = whole} {us = us} k f g so a p = record {
  begun = a.begun ++ p.used;
  cut = a.cut ∙ (ap (λ (x : List TextUnit). a.begun ++ x) p.cut ∙ sym (append_assoc a.begun p.used p.left));
  goes = λ x e ms fit.
      let on = so (at (p.used ++ x) e ms) ∙ ap (λ r. r >>= g) (p.goes x e ms fit) in
      subst (λ (y : List TextUnit). P y e ms (g (p.value, at x e ms))) (sym (append_assoc a.begun p.used x))
      (subst (P (a.begun ++ (p.used ++ x)) e ms) on (a.goes (p.used ++ x) e ms (p.settled x fit)));
}

pub err_bind : {A B : Type 0} (r : Result A Fault) (g : A → Result B Fault) (f : Fault) → r ≡ Err f
    → (r >>= g) ≡ Err f
err_bind r g f h = rw h refl

pub stick : {A B : Type 0} {P : Claim B} {whole : List TextUnit} {t : List TextUnit → Bool}
    {us : List TextUnit} {e : Line} {fault : Fault} {used left : List TextUnit} (k : State → Step B)
    (f : State → Step A) (g : A × State → Step B)
    → ((s : State) → k s ≡ (f s >>= g)) → Along P whole k t us → FailsAt f us e fault used left
    → (bytes : List ℕ) → are_plain bytes ≡ true → offers fault bytes ≡ true → (value : B)
    → Fits t us (used ++ text bytes)
    → ((ms : List Line) → k (at (used ++ text bytes) (written []) ms) ≡ Ok (value, Between ms))
    → Stuck P whole e fault
stick {P = P} {whole = whole} {us = us} {e = e} {fault = fault} {used = used} {left = left} k f g so a n bytes
    plain offered value fit some = record {
      begun = a.begun ++ used;
      left = left;
      cut = a.cut ∙ (ap (λ (x : List TextUnit). a.begun ++ x) n.cut ∙ sym (append_assoc a.begun used left));
      place = n.place;
      fails = λ ms.
          let failed = so (at us e ms) ∙ ap (λ r. r >>= g) (n.fails ms) in
          subst (λ (y : List TextUnit). P y e ms (Err fault)) (sym a.cut)
          (subst (P (a.begun ++ us) e ms) failed (a.goes us e ms (inr refl)));
      refuses = λ x d ms same.
          let there = met_before (with_units x d) fault in
          let failed = err_bind (f (at (used ++ x) d ms)) g there (n.refuses x d ms same) in
          let seen = front-append used x left (element-front x left same) ∙ ap front (sym n.cut) in
          subst (λ (y : List TextUnit). P y d ms (Err there)) (sym (append_assoc a.begun used x))
          (subst (P (a.begun ++ (used ++ x)) d ms) (so (at (used ++ x) d ms) ∙ failed)
          (a.goes (used ++ x) d ms (inr seen)));
      bytes = bytes;
      plain = plain;
      offered = offered;
      value = value;
      some = λ ms. subst (λ (y : List TextUnit). P y (written []) ms (Ok (value, Between ms)))
          (sym (append_assoc a.begun used (text bytes)))
          (subst (P (a.begun ++ (used ++ text bytes)) (written []) ms) (some ms)
          (a.goes (used ++ text bytes) (written []) ms fit));
    }

-- a reading to the end of the line
pub arrive : {B : Type 0} {P : Claim B} {whole : List TextUnit} {t : List TextUnit → Bool}
    {us : List TextUnit} (e : Line) (k : State → Step B) (value : B) → Along P whole k t us
    → ((ms : List Line) → k (at us e ms) ≡ Ok (value, Between (lines_after e ms))) → Outcome P whole e
arrive {P = P} {us = us} e k value a so =
    through value (λ ms. subst (λ (y : List TextUnit). P y e ms (Ok (value, Between (lines_after e ms))))
    (sym a.cut) (subst (P (a.begun ++ us) e ms) (so ms) (a.goes us e ms (inr refl))))

pub bind-bind : {A B C : Type 0} (r : Result A Fault) (f : A → Result B Fault) (g : B → Result C Fault)
    → ((r >>= f) >>= g) ≡ (r >>= λ x. f x >>= g)
bind-bind r f g = grind arith
