-- From the units that are left of a text to the line that is left, and the lines after it.
use Rattle.std.proofs.Common.{arith, ◌≡◌, ℕ, Bool, true, false, cond, List, [], ◌∷◌, take, drop, Option}
use Rattle.std.proofs.Common.{Some}
use Rattle.std.proofs.Common.{None, refl, sym, ap, ◌∙◌, ◌⊎◌, inl, inr}
use Rattle.std.specs.Prelude.{is_some}
use Rattle.std.specs.List.{take_while}
use Rattle.std.proofs.lemmas.Bool.{false≢true}
use Rattle.nj_text.specs.declared.spot.Spot.{Spot}
use Rattle.nj_text.specs.declared.fault.UnitFault.{UnitFault}
use Rattle.nj_text.specs.Bytes.{is_identifier_byte, drop_while, begins_with}
use Rattle.nj_text.specs.Units.{Meaning, Ordinary, Escape, Reference, Join, OpeningJoin, Comment, LeadingTab}
use Rattle.nj_text.specs.Units.{LineEnd, TextEnd, BadByte, BadEscape, TextUnit, is_ordinary_in, Position}
use Rattle.nj_text.specs.Units.{AtStart, found_at, position_after, spot_after, cut}
use Rattle.nj_text.specs.Lines.{Line, ending_of, before_first_line, lines_before, lines_of, with_units}
use Rattle.nj_text.specs.Lines.{lines_after, line_spot}
use Rattle.nj_text.specs.Inside.Scans.{units_within, Begins, BeginsBadly}
use Rattle.nj_text.specs.Words.{is_blank, in_identifier, in_word, next_fault, fault_of, first_fault}
use Rattle.nj_text.specs.Words.{begins_with_byte, opens_word}
use Rattle.nj_text.specs.Inside.Meanings.{is_blank_meaning, in_word_meaning}
use Rattle.nj_text.specs.Calls.{Inside}
use Rattle.nj_text.specs.declared.parts.TextKind.TheVariants as kind
use Rattle.nj_text.specs.Inside.Gathering.{in_value_meaning, in_text}
use Rattle.nj_text.specs.Inside.States.{first_line, other_lines, inside, lines_from, lines_within, ends_next}
use Rattle.nj_text.proofs.LineStarts.{cut_has_line}
use Rattle.nj_text.proofs.Lists.{drop_while-cons_yes, drop_while-cons_no, take_while-cons_yes}
use Rattle.nj_text.proofs.Lists.{take_while-cons_no}

-- ---- beginnings

pub fault_badly : (spot : Spot) (bs : List ℕ) (m : Meaning) (f : UnitFault) → BeginsBadly spot bs m
    → fault_of m spot ≡ Some f → Some f ≡ next_fault (units_within spot bs)
fault_badly spot bs m f b e = rw b.2 (sym e)

pub fault_at_end : (spot : Spot) (bs : List ℕ) → bs ≡ [] → None ≡ next_fault (units_within spot bs)
unfolding cut
fault_at_end spot bs e = rw e refl

pub no_line_end_badly : (spot : Spot) (bs : List ℕ) (m : Meaning) → BeginsBadly spot bs m
    → is_some (ending_of m) ≡ false → ends_next (units_within spot bs) ≡ false
no_line_end_badly spot bs m b e = rw b.2 e

abbrev EndsAt : Spot → List ℕ → List Line → Type 0
EndsAt spot bs after = ((first_line (lines_within spot bs)).units ≡ [])
    × (lines_after (first_line (lines_within spot bs)) (other_lines (lines_within spot bs)) ≡ after)

ends_at_end : (spot : Spot) → EndsAt spot [] (lines_from spot [])
unfolding cut
ends_at_end spot = (refl, refl)

pub line_ends_at_end : (spot : Spot) (bs : List ℕ) → bs ≡ [] → EndsAt spot bs (lines_from spot bs)
line_ends_at_end spot bs e = rw e (ends_at_end spot)

pub line_ends : (spot there : Spot) (bs : List ℕ) (n : ℕ)
    → Begins spot bs LineEnd n (cut AtStart 0 there (drop n bs))
    → EndsAt spot bs (lines_from there (drop n bs))
line_ends spot there bs n e = grind arith

abbrev HasLine : List Line → Type 0
HasLine ls = (l : Line) × (others : List Line) × (ls ≡ l ∷ others)

nil_has_no_line : HasLine [] → ⊥
nil_has_no_line h = grind arith

pub line_after : (u : TextUnit) (ls : List Line) → HasLine (before_first_line u ls) → HasLine ls
line_after u ls h = grind arith

-- ---- fronts of a line

-- a test that no end of a line passes
abbrev EndsFail : (TextUnit → Bool) → Type 0
EndsFail t = (u : TextUnit) (b : Bool) → ending_of u.means ≡ Some b → t u ≡ false

ends_fail_by : (q : Meaning → Bool) → q LineEnd ≡ false → q TextEnd ≡ false → (m : Meaning) (b : Bool)
    → ending_of m ≡ Some b → q m ≡ false
ends_fail_by q l t m b e = grind arith

pub blanks_end : EndsFail is_blank
blanks_end u b e = ends_fail_by is_blank_meaning refl refl u.means b e

pub identifiers_end : EndsFail in_identifier
identifiers_end u b e = ends_fail_by (is_ordinary_in is_identifier_byte) refl refl u.means b e

pub words_end : EndsFail in_word
words_end u b e = ends_fail_by in_word_meaning refl refl u.means b e

pub values_end : EndsFail (in_text kind.Value)
values_end u b e = ends_fail_by in_value_meaning refl refl u.means b e

-- the line that is left when a front of it was passed, and the lines after it
pub passed_by : (t : TextUnit → Bool) → EndsFail t → (us : List TextUnit)
    → inside (lines_of (drop_while t us)) ≡ Inside
    (with_units (drop_while t (first_line (lines_of us)).units) (first_line (lines_of us)))
    (other_lines (lines_of us))
passed_by t ends [] = refl
passed_by t ends (u ∷ us) = by_end (ending_of u.means) refl (passed_by t ends us)
  where
    more : (ls : List Line) → t u ≡ true → Inside
        (with_units (drop_while t (first_line (before_first_line u ls)).units)
        (first_line (before_first_line u ls))) (other_lines (before_first_line u ls))
        ≡ Inside (with_units (drop_while t (first_line ls).units) (first_line ls)) (other_lines ls)
    more [] e = refl
    more (l ∷ ls) e = ap (λ vs. Inside (with_units vs l) ls) (drop_while-cons_yes t u l.units e)

    none : (ls : List Line) → t u ≡ false → inside (before_first_line u ls)
        ≡ Inside (with_units (drop_while t (first_line (before_first_line u ls)).units)
        (first_line (before_first_line u ls))) (other_lines (before_first_line u ls))
    none [] e = refl
    none (l ∷ ls) e = ap (λ vs. Inside (with_units vs l) ls) (sym (drop_while-cons_no t u l.units e))

    by_test : (v : Bool) → t u ≡ v → inside (lines_of (drop_while t us))
        ≡ Inside (with_units (drop_while t (first_line (lines_of us)).units) (first_line (lines_of us)))
        (other_lines (lines_of us))
        → ending_of u.means ≡ None → inside (lines_of (cond v (drop_while t us) (u ∷ us)))
        ≡ Inside (with_units (drop_while t (first_line (before_first_line u (lines_of us))).units)
        (first_line (before_first_line u (lines_of us)))) (other_lines (before_first_line u (lines_of us)))
    by_test true e rest n = rest ∙ sym (more (lines_of us) e)
    by_test false e rest n = rw n (none (lines_of us) e)

    by_end : (o : Option Bool) → ending_of u.means ≡ o
        → inside (lines_of (drop_while t us))
        ≡ Inside (with_units (drop_while t (first_line (lines_of us)).units) (first_line (lines_of us)))
        (other_lines (lines_of us))
        → inside (lines_of (cond (t u) (drop_while t us) (u ∷ us)))
        ≡ Inside (with_units (drop_while t (first_line (lines_before o u (lines_of us))).units)
        (first_line (lines_before o u (lines_of us)))) (other_lines (lines_before o u (lines_of us)))
    by_end None e rest = by_test (t u) refl rest e
    by_end (Some b) e rest = rw (ends u b e, e) refl

-- the front of the line itself
pub front_of : (t : TextUnit → Bool) → EndsFail t → (us : List TextUnit) → HasLine (lines_of us)
    → take_while t (first_line (lines_of us)).units ≡ take_while t us
front_of t ends [] h = refl
front_of t ends (u ∷ us) h = by_end (ending_of u.means) refl (front_of t ends us) h
  where
    units_are : (ls : List Line) → HasLine ls
        → (first_line (before_first_line u ls)).units ≡ u ∷ (first_line ls).units
    units_are ls k = rw k.2 refl

    by_test : (v : Bool) → t u ≡ v → take_while t (first_line (lines_of us)).units ≡ take_while t us
        → take_while t (u ∷ (first_line (lines_of us)).units) ≡ take_while t (u ∷ us)
    by_test true e rest = take_while-cons_yes t u (first_line (lines_of us)).units e ∙ ap (λ vs. u ∷ vs) rest
        ∙ sym (take_while-cons_yes t u us e)
    by_test false e rest = take_while-cons_no t u (first_line (lines_of us)).units e
        ∙ sym (take_while-cons_no t u us e)

    by_end : (o : Option Bool) → ending_of u.means ≡ o
        → (HasLine (lines_of us) → take_while t (first_line (lines_of us)).units ≡ take_while t us)
        → HasLine (lines_before o u (lines_of us))
        → take_while t (first_line (lines_before o u (lines_of us))).units ≡ take_while t (u ∷ us)
    by_end None e rest k = ap (take_while t) (units_are (lines_of us) (line_after u (lines_of us) k))
        ∙ by_test (t u) refl (rest (line_after u (lines_of us) k))
    by_end (Some b) e rest k = sym (take_while-cons_no t u us (ends u b e))

-- ---- the first unit of a line

-- a value that depends on the first unit alone, and is the same at each end of a line as where no
-- unit is left
module _ {A : Type 0} (f : Meaning → Spot → A) (none : A)
    (at_line_end : (spot : Spot) → f LineEnd spot ≡ none)
    (at_text_end : (spot : Spot) → f TextEnd spot ≡ none) where
  abbrev pub of_first : List TextUnit → A
  of_first [] = none
  of_first (u ∷ us) = f u.means u.spot

  of_end : (m : Meaning) (spot : Spot) (b : Bool) → ending_of m ≡ Some b → f m spot ≡ none
  of_end (Ordinary c) spot b e = absurd cc
  of_end (Escape c) spot b e = absurd cc
  of_end (Reference n) spot b e = absurd cc
  of_end Join spot b e = absurd cc
  of_end OpeningJoin spot b e = absurd cc
  of_end Comment spot b e = absurd cc
  of_end LeadingTab spot b e = absurd cc
  of_end LineEnd spot b e = at_line_end spot
  of_end TextEnd spot b e = at_text_end spot
  of_end BadByte spot b e = absurd cc
  of_end BadEscape spot b e = absurd cc

  pub first_of_line : (us : List TextUnit) → HasLine (lines_of us)
      → of_first (first_line (lines_of us)).units ≡ of_first us
  first_of_line [] h = refl
  first_of_line (u ∷ us) h = by_end (ending_of u.means) refl h
    where
      by_lines : (ls : List Line) → HasLine (before_first_line u ls)
          → of_first (first_line (before_first_line u ls)).units ≡ f u.means u.spot
      by_lines [] k = absurd (nil_has_no_line k)
      by_lines (l ∷ ls) k = refl

      by_end : (o : Option Bool) → ending_of u.means ≡ o → HasLine (lines_before o u (lines_of us))
          → of_first (first_line (lines_before o u (lines_of us))).units ≡ f u.means u.spot
      by_end None e k = by_lines (lines_of us) k
      by_end (Some b) e k = sym (of_end u.means u.spot b e)

pub next_fault_of_line : (us : List TextUnit) → HasLine (lines_of us)
    → next_fault (first_line (lines_of us)).units ≡ next_fault us
next_fault_of_line us h = grind arith

pub begins_word_of_line : (us : List TextUnit) → HasLine (lines_of us)
    → begins_with opens_word (first_line (lines_of us)).units ≡ begins_with opens_word us
begins_word_of_line us h = grind arith

pub begins_with_byte_of_line : (b : ℕ) (us : List TextUnit) → HasLine (lines_of us)
    → begins_with_byte b (first_line (lines_of us)).units ≡ begins_with_byte b us
begins_with_byte_of_line b us h = grind arith

-- ---- the place of a line

pub spot_of_line : (position : Position) (spot : Spot) (bs : List ℕ)
    → line_spot (first_line (lines_of (cut position 0 spot bs))) ≡ spot
unfolding cut
spot_of_line position spot [] = refl
spot_of_line position spot (b ∷ bs) = by_end (ending_of (found_at position b bs).0)
    (lines_of (cut (position_after position (found_at position b bs).0) (found_at position b bs).1
    (spot_after b spot) bs)) (cut_has_line (position_after position (found_at position b bs).0)
    (found_at position b bs).1 (spot_after b spot) bs)
  where
    by_end : (o : Option Bool) (ls : List Line) → HasLine ls
        → line_spot (first_line (lines_before o
        (record {
          spot = spot;
          bytes = b ∷ take (found_at position b bs).1 bs;
          means =
              (found_at position b bs).0;
        }) ls)) ≡ spot
    by_end None ls k = rw k.2 refl
    by_end (Some t) ls k = refl

-- ---- values

-- the whole of a line as a value
pub record IsValue (us : List TextUnit) : Type 0 where
  pub fault : first_fault (first_line (lines_of us)).units ≡ next_fault (drop_while (in_text kind.Value) us)
  pub all : next_fault (drop_while (in_text kind.Value) us) ≡ None
      → (first_line (lines_of us)).units ≡ take_while (in_text kind.Value) us
  pub rest : next_fault (drop_while (in_text kind.Value) us) ≡ None
      → inside (lines_of (drop_while (in_text kind.Value) us))
      ≡ Inside (with_units [] (first_line (lines_of us))) (other_lines (lines_of us))

value_or_bad : (m : Meaning) (spot : Spot) → ending_of m ≡ None
    → ((in_value_meaning m ≡ true) × (fault_of m spot ≡ None))
    ⊎ ((in_value_meaning m ≡ false) × ((f : UnitFault) × (fault_of m spot ≡ Some f)))
value_or_bad m spot e = grind arith

abbrev of_value : TextUnit → Bool
of_value u = in_text kind.Value u

absurd_fault : (f : UnitFault) → Some f ≡ None → ⊥
absurd_fault f e = absurd cc

-- after a unit of the value
value_continues : (u : TextUnit) (us : List TextUnit) (l : Line) (ls : List Line) → lines_of us ≡ l ∷ ls
    → ending_of u.means ≡ None → of_value u ≡ true → fault_of u.means u.spot ≡ None → IsValue us
    → IsValue (u ∷ us)
value_continues u us l ls e n t f rest = grind arith

-- at a bad unit
value_fails : (u : TextUnit) (us : List TextUnit) (l : Line) (ls : List Line) (f : UnitFault)
    → lines_of us ≡ l ∷ ls → ending_of u.means ≡ None → of_value u ≡ false → fault_of u.means u.spot ≡ Some f
    → IsValue (u ∷ us)
value_fails u us l ls f e n t k = grind arith

-- at the end of the line
value_ends : (u : TextUnit) (us : List TextUnit) (b : Bool) → ending_of u.means ≡ Some b → IsValue (u ∷ us)
value_ends u us b e = grind arith

pub value_of_line : (us : List TextUnit) → HasLine (lines_of us) → IsValue us
value_of_line [] h = absurd (nil_has_no_line h)
value_of_line (u ∷ us) h = by_end (ending_of u.means) refl (value_of_line us) h
  where
    by_case : (has : HasLine (lines_of us)) → ending_of u.means ≡ None → IsValue us
        → ((of_value u ≡ true) × (fault_of u.means u.spot ≡ None))
        ⊎ ((of_value u ≡ false) × ((f : UnitFault) × (fault_of u.means u.spot ≡ Some f))) → IsValue (u ∷ us)
    by_case has e rest (inl p) = value_continues u us has.0 has.1 has.2 e p.0 p.1 rest
    by_case has e rest (inr p) = value_fails u us has.0 has.1 p.1.0 has.2 e p.0 p.1.1

    by_end : (o : Option Bool) → ending_of u.means ≡ o → (HasLine (lines_of us) → IsValue us)
        → HasLine (lines_before o u (lines_of us)) → IsValue (u ∷ us)
    by_end None e rest k = let has = line_after u (lines_of us) k in
        by_case has e (rest has) (value_or_bad u.means u.spot e)
    by_end (Some b) e rest k = value_ends u us b e

-- the rest of a line after a front of it has a line too
pub passed_has_line : (t : TextUnit → Bool) → EndsFail t → (us : List TextUnit) → HasLine (lines_of us)
    → HasLine (lines_of (drop_while t us))
passed_has_line t ends [] h = h
passed_has_line t ends (u ∷ us) h = by_test (t u) refl (passed_has_line t ends us)
  where
    not_end : (o : Option Bool) → ending_of u.means ≡ o → t u ≡ true
        → HasLine (lines_before o u (lines_of us)) → HasLine (lines_of us)
    not_end None e k g = line_after u (lines_of us) g
    not_end (Some b) e k g = absurd (false≢true (sym (ends u b e) ∙ k))

    by_test : (v : Bool) → t u ≡ v → (HasLine (lines_of us) → HasLine (lines_of (drop_while t us)))
        → HasLine (lines_of (cond v (drop_while t us) (u ∷ us)))
    by_test true e rest = rest (not_end (ending_of u.means) refl e h)
    by_test false e rest = h
