-- Signs that come next in a line.
use Rattle.std.proofs.Common.{rules, ◌≡◌, ℕ, Bool, true, false, cond, not, ◌&&◌, eqb, List, [], ◌∷◌, drop}
use Rattle.std.proofs.Common.{Some, None, refl, arith}
use Rattle.std.proofs.lemmas.Bool.{eqb-true}
use Rattle.nj_text.specs.declared.spot.Spot.{Spot}
use Rattle.nj_text.specs.declared.fault.UnitFault.{UnitFault}
use Rattle.nj_text.specs.declared.sign.Sign.{Sign}
use Rattle.nj_text.specs.declared.sign.Sign.TheVariants as sign
use Rattle.nj_text.specs.Bytes.{is_ordinary_byte}
use Rattle.nj_text.specs.Units.{Ordinary, TextUnit, Within, cut}
use Rattle.nj_text.specs.Lines.{Line, lines_of, with_units}
use Rattle.nj_text.specs.Lines.{lines_after}
use Rattle.nj_text.specs.Words.{begins_with_byte, next_fault}
use Rattle.nj_text.specs.Inside.Scans.{advance, units_within, has_sign, sign_size, sign_length, is_first}
use Rattle.nj_text.specs.Calls.{State, Between, Inside, Reply, is_empty, is_sign, state_after_sign, sign_at}
use Rattle.nj_text.specs.Inside.States.{reply, failing, unless_bad, first_line, inside}
use Rattle.nj_text.specs.Inside.States.{lines_within, ends_next}
use Rattle.nj_text.proofs.Cuts.{cut-ordinary, advance-advance}
use Rattle.nj_text.proofs.LineStarts.{cut_has_line}
use Rattle.nj_text.proofs.Bridges.{begins_with_byte_of_line}
use Rattle.nj_text.proofs.Steps.{line, others, fails_here}

abbrev sign_or_none : Sign → Spot → List ℕ → Bool → Reply Bool
sign_or_none want spot bytes t = cond t
    (reply true (state_after_sign want (line spot bytes) (others spot bytes)))
    (reply false (Inside (line spot bytes) (others spot bytes)))

pub sign_fails : (want : Sign) (spot : Spot) (bytes : List ℕ) (f : UnitFault)
    → Some f ≡ next_fault (units_within spot bytes)
    → unless_bad (sign_at want) (line spot bytes) (others spot bytes) ≡ failing f
sign_fails want spot bytes f e = grind (arith, fails_here, line)

sign_by : (want : Sign) (spot : Spot) (bytes : List ℕ) (t : Bool)
    → None ≡ next_fault (units_within spot bytes) → is_sign want (line spot bytes).units ≡ t
    → unless_bad (sign_at want) (line spot bytes) (others spot bytes) ≡ sign_or_none want spot bytes t
sign_by want spot bytes t n e = grind arith

-- ---- line ends

pub line_end_taken : (want : Sign) (spot : Spot) (bytes : List ℕ) (after : List Line) → want ≡ sign.LineEnd
    → None ≡ next_fault (units_within spot bytes) → (line spot bytes).units ≡ []
    → lines_after (line spot bytes) (others spot bytes) ≡ after
    → unless_bad (sign_at want) (line spot bytes) (others spot bytes) ≡ reply true (Between after)
line_end_taken want spot bytes after w n e l = grind arith

has_units : (us : List TextUnit) → (first : ends_next us ≡ false)
    → ((l : Line) × (ls : List Line) × (lines_of us ≡ l ∷ ls))
    → is_empty (first_line (lines_of us)).units ≡ false
has_units us first h = grind arith

pub no_line_end : (want : Sign) (spot : Spot) (bytes : List ℕ) → want ≡ sign.LineEnd
    → None ≡ next_fault (units_within spot bytes) → ends_next (units_within spot bytes) ≡ false
    → unless_bad (sign_at want) (line spot bytes) (others spot bytes)
    ≡ reply false (inside (lines_within spot bytes))
no_line_end want spot bytes w n e = grind (arith, sign_by, has_units, cut_has_line)

-- ---- bytes

-- an ordinary byte comes next where it is the next byte
byte_here : (b : ℕ) → is_ordinary_byte b ≡ true → (spot : Spot) (bytes : List ℕ)
    → begins_with_byte b (units_within spot bytes) ≡ is_first b bytes
unfolding cut
byte_here b o spot bytes = search rules

byte_of_line : (b : ℕ) → is_ordinary_byte b ≡ true → (spot : Spot) (bytes : List ℕ)
    → begins_with_byte b (line spot bytes).units ≡ is_first b bytes
byte_of_line b o spot bytes = grind (arith, begins_with_byte_of_line, cut_has_line, byte_here)

abbrev plain_unit : Spot → ℕ → TextUnit
plain_unit spot b = record { spot = spot; bytes = b ∷ []; means = Ordinary b }

-- the line after an ordinary byte
line_after_byte : (spot : Spot) (x : ℕ) (xs : List ℕ) → is_ordinary_byte x ≡ true
    → inside (lines_within spot (x ∷ xs)) ≡ Inside
    (with_units (plain_unit spot x ∷ (line (advance 1 spot) xs).units) (line (advance 1 spot) xs))
    (others (advance 1 spot) xs)
line_after_byte spot x xs o = grind (
  arith,
  cut-ordinary spot x xs o,
  cut_has_line Within 0 (advance 1 spot) xs,
)

abbrev line_in : State → Line
line_in (Inside l ls) = l
line_in other = first_line []

abbrev lines_in : State → List Line
lines_in (Inside l ls) = ls
lines_in other = []

-- after one ordinary byte, and after two
after_one : (spot : Spot) (x : ℕ) (xs : List ℕ) → is_ordinary_byte x ≡ true
    → Inside (with_units (drop 1 (line spot (x ∷ xs)).units) (line spot (x ∷ xs))) (others spot (x ∷ xs))
    ≡ inside (lines_within (advance 1 spot) xs)
after_one spot x xs o = grind (arith, drop, line_after_byte)

after_two : (spot : Spot) (x y : ℕ) (ys : List ℕ) → is_ordinary_byte x ≡ true → is_ordinary_byte y ≡ true
    → Inside (with_units (drop 2 (line spot (x ∷ y ∷ ys)).units) (line spot (x ∷ y ∷ ys)))
    (others spot (x ∷ y ∷ ys)) ≡ inside (lines_within (advance 2 spot) ys)
after_two spot x y ys o p = grind (arith, drop, line_after_byte, after_one, advance-advance)

-- the second byte, after an ordinary byte
second_byte : (b : ℕ) → is_ordinary_byte b ≡ true → (spot : Spot) (x : ℕ) (xs : List ℕ)
    → is_ordinary_byte x ≡ true → begins_with_byte b (drop 1 (line spot (x ∷ xs)).units) ≡ is_first b xs
second_byte b o spot x xs p = grind (arith, drop, line_after_byte, byte_of_line)

-- ---- signs of one byte and of two

seconds : (spot : Spot) (bytes : List ℕ) → is_first 124 bytes ≡ true
    → (begins_with_byte 124 (drop 1 (line spot bytes).units) ≡ is_first 124 (drop 1 bytes))
    × (begins_with_byte 64 (drop 1 (line spot bytes).units) ≡ is_first 64 (drop 1 bytes))
seconds spot bytes e = grind (arith, eqb-true, second_byte)

same_sign : (want : Sign) (spot : Spot) (bytes : List ℕ) → (want ≡ sign.LineEnd → ⊥)
    → is_sign want (line spot bytes).units ≡ has_sign want bytes
same_sign sign.Colon spot bytes n = byte_of_line 58 refl spot bytes
same_sign sign.Equals spot bytes n = byte_of_line 61 refl spot bytes
same_sign sign.Pipe spot bytes n = by_test (is_first 124 bytes) refl
  where
    by_test : (t : Bool) → is_first 124 bytes ≡ t
        → is_sign sign.Pipe (line spot bytes).units ≡ has_sign sign.Pipe bytes
    by_test true e = let s = seconds spot bytes e in rw (byte_of_line 124 refl spot bytes, s.0, s.1) refl
    by_test false e = rw (byte_of_line 124 refl spot bytes, e) refl
same_sign sign.Pipe2 spot bytes n = by_test (is_first 124 bytes) refl
  where
    by_test : (t : Bool) → is_first 124 bytes ≡ t
        → is_sign sign.Pipe2 (line spot bytes).units ≡ has_sign sign.Pipe2 bytes
    by_test true e = rw (byte_of_line 124 refl spot bytes, (seconds spot bytes e).0) refl
    by_test false e = rw (byte_of_line 124 refl spot bytes, e) refl
same_sign sign.PipeAt spot bytes n = by_test (is_first 124 bytes) refl
  where
    by_test : (t : Bool) → is_first 124 bytes ≡ t
        → is_sign sign.PipeAt (line spot bytes).units ≡ has_sign sign.PipeAt bytes
    by_test true e = rw (byte_of_line 124 refl spot bytes, (seconds spot bytes e).1) refl
    by_test false e = rw (byte_of_line 124 refl spot bytes, e) refl
same_sign sign.LineEnd spot bytes n = absurd (n refl)

pub no_sign : (want : Sign) (spot : Spot) (bytes : List ℕ) → (want ≡ sign.LineEnd → ⊥)
    → None ≡ next_fault (units_within spot bytes) → sign_length want bytes ≡ 0
    → unless_bad (sign_at want) (line spot bytes) (others spot bytes)
    ≡ reply false (inside (lines_within spot bytes))
no_sign want spot bytes w n z = grind (arith, sign_by, same_sign)

both_true : (s t : Bool) → (s && t) ≡ true → (s ≡ true) × (t ≡ true)
both_true s t h = grind arith

first_true : (s t : Bool) → (s && t) ≡ true → s ≡ true
first_true s t h = (both_true s t h).0

-- one byte of a sign
one_taken : (b : ℕ) → is_ordinary_byte b ≡ true → (spot : Spot) (bytes : List ℕ) → is_first b bytes ≡ true
    → Inside (with_units (drop 1 (line spot bytes).units) (line spot bytes)) (others spot bytes)
    ≡ inside (lines_within (advance 1 spot) (drop 1 bytes))
one_taken b o spot bytes e = grind (arith, after_one, eqb-true)

two_taken : (b c : ℕ) → is_ordinary_byte b ≡ true → is_ordinary_byte c ≡ true → (spot : Spot) (bytes : List ℕ)
    → (is_first b bytes && is_first c (drop 1 bytes)) ≡ true
    → Inside (with_units (drop 2 (line spot bytes).units) (line spot bytes)) (others spot bytes)
    ≡ inside (lines_within (advance 2 spot) (drop 2 bytes))
two_taken b c o p spot bytes e = grind (arith, eqb, both_true, after_two, eqb-true)

taken_by : (want : Sign) (spot : Spot) (bytes : List ℕ) → has_sign want bytes ≡ true
    → state_after_sign want (line spot bytes) (others spot bytes)
    ≡ inside (lines_within (advance (sign_size want) spot) (drop (sign_size want) bytes))
taken_by sign.Colon spot bytes e = one_taken 58 refl spot bytes e
taken_by sign.Equals spot bytes e = one_taken 61 refl spot bytes e
taken_by sign.Pipe spot bytes e = one_taken 124 refl spot bytes
    (first_true (is_first 124 bytes) _ (first_true (is_first 124 bytes && not (is_first 124 (drop 1 bytes))) _
    e))
taken_by sign.Pipe2 spot bytes e = two_taken 124 124 refl refl spot bytes e
taken_by sign.PipeAt spot bytes e = two_taken 124 64 refl refl spot bytes e
taken_by sign.LineEnd spot bytes e = absurd cc

pub sign_taken : (want : Sign) (spot : Spot) (bytes : List ℕ) (n : ℕ) (there : Spot) (rest : List ℕ)
    → (want ≡ sign.LineEnd → ⊥) → None ≡ next_fault (units_within spot bytes) → n ≡ sign_length want bytes
    → (n ≡ 0 → ⊥)
    → there ≡ advance n spot → rest ≡ drop n bytes
    → unless_bad (sign_at want) (line spot bytes) (others spot bytes)
    ≡ reply true (inside (lines_within there rest))
sign_taken want spot bytes n there rest w f l z t r = grind (arith, sign_by, same_sign, taken_by, drop)
