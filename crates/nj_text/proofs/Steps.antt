-- The result of a call within a line, from the units at its cursor.
use Rattle.std.proofs.Common.{arith, ◌≡◌, ℕ, Bool, true, false, cond, eqb, List, [], ◌∷◌, ◌++◌}
use Rattle.std.proofs.Common.{length}
use Rattle.std.proofs.Common.{Option, Some, None, refl, sym, ap, subst, ◌∙◌}
use Rattle.std.specs.List.{take_while}
use Rattle.std.proofs.lemmas.Bool.{eqb-true}
use Rattle.std.proofs.lemmas.List.{append-nil, nil_from_length}
use Rattle.nj_text.specs.declared.spot.Spot.{Spot}
use Rattle.nj_text.specs.declared.fault.UnitFault.{UnitFault}
use Rattle.nj_text.specs.declared.fault.WordFault.{WordFault}
use Rattle.nj_text.specs.declared.parts.TextKind.TheVariants as kind
use Rattle.nj_text.specs.Bytes.{is_ordinary_byte, is_identifier_byte, drop_while, begins_with}
use Rattle.nj_text.specs.Units.{Meaning, Within, cut}
use Rattle.nj_text.specs.Lines.{Line, lines_of, with_units}
use Rattle.nj_text.specs.Inside.Scans.{advance, units_within, BeginsBadly}
use Rattle.nj_text.specs.Words.{is_blank, in_identifier, in_word, next_fault, PartModel, WordModel}
use Rattle.nj_text.specs.Words.{opens_word}
use Rattle.nj_text.specs.Inside.Meanings.{opens_word_meaning}
use Rattle.nj_text.specs.Calls.{State, Inside, Reply, unless_fault, after_blanks, bytes_of, some_bytes}
use Rattle.nj_text.specs.Calls.{ident_at, word_here, word_at, value_at}
use Rattle.nj_text.specs.Inside.Gathering.{gathered, after_text, FailsText}
use Rattle.nj_text.specs.Inside.States.{reply, failing, unless_bad, first_line, other_lines, inside}
use Rattle.nj_text.specs.Inside.States.{lines_within, FailsStep}
use Rattle.nj_text.proofs.Lists.{AllIn, AllIn-weaker, AllIn-take_while, take_while-append}
use Rattle.nj_text.proofs.Lists.{drop_while-append}
use Rattle.nj_text.proofs.Cuts.{plain_units, cut-run}
use Rattle.nj_text.proofs.Gathered.{none_after}
use Rattle.nj_text.proofs.LineStarts.{cut_has_line}
use Rattle.nj_text.proofs.Bridges.{passed_by, front_of, identifiers_end, words_end}
use Rattle.nj_text.proofs.Bridges.{next_fault_of_line, begins_word_of_line, spot_of_line, value_of_line}
use Rattle.nj_text.proofs.Bridges.{passed_has_line}
use Rattle.nj_text.specs.Inside.Gathering.{NoneInRun}

-- ---- after the blanks

abbrev line_of_state : State → Line
line_of_state (Inside l ls) = l
line_of_state other = record { units = []; end = record { line = 1; column = 1 }; is_last = true }

abbrev lines_of_state : State → List Line
lines_of_state (Inside l ls) = ls
lines_of_state other = []

-- a reading of the line after the blanks is a reading of the line at the cursor that the blanks lead to
pub at_cursor : {A : Type 0} (f : Line → List Line → A) (spot there : Spot) (bytes rest : List ℕ)
    → units_within there rest ≡ drop_while is_blank (units_within spot bytes)
    → f (after_blanks (first_line (lines_within spot bytes))) (other_lines (lines_within spot bytes))
    ≡ f (first_line (lines_within there rest)) (other_lines (lines_within there rest))
at_cursor f spot there bytes rest e = grind (arith, passed_by)

abbrev pub line : Spot → List ℕ → Line
line spot bytes = first_line (lines_within spot bytes)

abbrev pub others : Spot → List ℕ → List Line
others spot bytes = other_lines (lines_within spot bytes)

fault_here : (spot : Spot) (bytes : List ℕ)
    → next_fault (line spot bytes).units ≡ next_fault (units_within spot bytes)
fault_here spot bytes = next_fault_of_line (units_within spot bytes) (cut_has_line Within 0 spot bytes)

-- the result is a bad unit that comes next
pub fails_here : {A : Type 0} (spot : Spot) (bytes : List ℕ) (f : UnitFault) (expected : Reply A)
    → Some f ≡ next_fault (units_within spot bytes)
    → unless_fault (next_fault (line spot bytes).units) expected ≡ failing f
fails_here spot bytes f expected e = ap (λ o. unless_fault o expected) (fault_here spot bytes ∙ sym e)

pub continues_here : {A : Type 0} (spot : Spot) (bytes : List ℕ) (expected : Reply A)
    → None ≡ next_fault (units_within spot bytes)
    → unless_fault (next_fault (line spot bytes).units) expected ≡ expected
continues_here spot bytes expected e = ap (λ o. unless_fault o expected) (fault_here spot bytes ∙ sym e)

-- ---- identifiers

pub identifier_is_ordinary : (b : ℕ) → is_identifier_byte b ≡ true → is_ordinary_byte b ≡ true
identifier_is_ordinary b h = grind arith

units_are_identifier : (spot : Spot) (xs : List ℕ) → AllIn is_identifier_byte xs
    → AllIn in_identifier (plain_units spot xs)
units_are_identifier spot [] h = tt
units_are_identifier spot (x ∷ xs) h = (h.0, units_are_identifier (advance 1 spot) xs h.1)

bytes_of_plain : (spot : Spot) (xs : List ℕ) → bytes_of (plain_units spot xs) ≡ xs
bytes_of_plain spot [] = refl
bytes_of_plain spot (x ∷ xs) = ap (λ ys. x ∷ ys) (bytes_of_plain (advance 1 spot) xs)

-- no unit of an identifier comes after it
identifier_stops : (spot : Spot) (ys : List ℕ) → NoneInRun is_identifier_byte ys
    → (take_while in_identifier (units_within spot ys) ≡ [])
    × (drop_while in_identifier (units_within spot ys) ≡ units_within spot ys)
unfolding cut
identifier_stops spot ys h = grind arith

-- the identifier that the units begin with
identifier_units : (spot : Spot) (bytes xs ys : List ℕ) → bytes ≡ xs ++ ys → AllIn is_identifier_byte xs
    → NoneInRun is_identifier_byte ys
    → (take_while in_identifier (units_within spot bytes) ≡ plain_units spot xs)
    × (drop_while in_identifier (units_within spot bytes) ≡ units_within (advance (length xs) spot) ys)
identifier_units spot bytes xs ys e h n =
    let there = units_within (advance (length xs) spot) ys in
    let front = plain_units spot xs in
    let all = units_are_identifier spot xs h in
    let stops = identifier_stops (advance (length xs) spot) ys n in
    let cut_is : units_within spot bytes ≡ front ++ there =
    ap (units_within spot) e ∙ cut-run spot xs ys
    (AllIn-weaker is_identifier_byte is_ordinary_byte xs identifier_is_ordinary h) in (
      ap (take_while in_identifier) cut_is ∙ take_while-append in_identifier front there all
          ∙ ap (λ us. front ++ us) stops.0 ∙ append-nil front,
      ap (drop_while in_identifier) cut_is ∙ drop_while-append in_identifier front there all ∙ stops.1,
    )

pub identifier_here : (spot there : Spot) (bytes xs ys : List ℕ) → bytes ≡ xs ++ ys
    → xs ≡ take_while is_identifier_byte bytes → ys ≡ drop_while is_identifier_byte bytes
    → there ≡ advance (length xs) spot → None ≡ next_fault (units_within spot bytes)
    → unless_bad ident_at (line spot bytes) (others spot bytes)
    ≡ reply (some_bytes xs) (inside (lines_within there ys))
identifier_here spot there bytes xs ys whole run remainder t f =
    let us = units_within spot bytes in
    let parts = identifier_units spot bytes xs ys whole
    (subst (AllIn is_identifier_byte) (sym run) (AllIn-take_while is_identifier_byte bytes))
    (subst (NoneInRun is_identifier_byte) (sym remainder) (none_after is_identifier_byte bytes)) in
    let front = front_of in_identifier identifiers_end us (cut_has_line Within 0 spot bytes) ∙ parts.0 in
    continues_here spot bytes (reply (some_bytes
    (bytes_of (take_while in_identifier (line spot bytes).units)))
    (Inside (with_units (drop_while in_identifier (line spot bytes).units) (line spot bytes))
    (others spot bytes))) f
    ∙ ap (λ vs. reply (some_bytes (bytes_of vs))
    (Inside (with_units (drop_while in_identifier (line spot bytes).units) (line spot bytes))
    (others spot bytes))) front
    ∙ ap (λ bs. reply (some_bytes bs) (Inside
    (with_units (drop_while in_identifier (line spot bytes).units) (line spot bytes)) (others spot bytes)))
    (bytes_of_plain spot xs)
    ∙ ap (λ s. reply (some_bytes xs) s) (sym (passed_by in_identifier identifiers_end us)
    ∙ ap (λ vs. inside (lines_of vs)) parts.1 ∙ ap (λ p. inside (lines_within p ys)) (sym t))

pub some_if_any : (xs : List ℕ) → eqb (length xs) 0 ≡ false → some_bytes xs ≡ Some xs
some_if_any xs h = grind arith

pub none_if_empty : (xs : List ℕ) → eqb (length xs) 0 ≡ true → some_bytes xs ≡ None
none_if_empty xs h = ap some_bytes (nil_from_length xs (eqb-true (length xs) 0 h))

-- ---- words

word_line : (spot : Spot) (bytes : List ℕ)
    → (first_line (lines_of (drop_while in_word (units_within spot bytes)))).units
    ≡ drop_while in_word (line spot bytes).units
word_line spot bytes = grind (arith, passed_by)

fault_after_word : (spot : Spot) (bytes : List ℕ)
    → next_fault (drop_while in_word (line spot bytes).units)
    ≡ next_fault (drop_while in_word (units_within spot bytes))
fault_after_word spot bytes = ap next_fault (sym (word_line spot bytes))
    ∙ next_fault_of_line (drop_while in_word (units_within spot bytes))
    (passed_has_line in_word words_end (units_within spot bytes) (cut_has_line Within 0 spot bytes))

begins_here : (spot : Spot) (bytes : List ℕ)
    → begins_with opens_word (line spot bytes).units ≡ begins_with opens_word (units_within spot bytes)
begins_here spot bytes = begins_word_of_line (units_within spot bytes) (cut_has_line Within 0 spot bytes)

abbrev word_or_none : Spot → List ℕ → Bool → Reply (Option WordModel)
word_or_none spot bytes t =
    cond t
    (unless_fault (next_fault (drop_while in_word (line spot bytes).units))
    (reply (Some (word_here (line spot bytes)))
    (Inside (with_units (drop_while in_word (line spot bytes).units) (line spot bytes))
    (others spot bytes))))
    (reply None (Inside (line spot bytes) (others spot bytes)))

pub no_word_here : (spot : Spot) (bytes : List ℕ) → None ≡ next_fault (units_within spot bytes)
    → begins_with opens_word (units_within spot bytes) ≡ false
    → unless_bad word_at (line spot bytes) (others spot bytes) ≡ reply None (inside (lines_within spot bytes))
no_word_here spot bytes f b = grind arith

pub word_fails_here : (spot : Spot) (bytes : List ℕ) (f : UnitFault)
    → None ≡ next_fault (units_within spot bytes) → begins_with opens_word (units_within spot bytes) ≡ true
    → next_fault (after_text kind.Word (units_within spot bytes)) ≡ Some f
    → unless_bad word_at (line spot bytes) (others spot bytes) ≡ failing f
word_fails_here spot bytes f n b e = grind (arith, continues_here, begins_here, fault_after_word)

pub word_is_here : (spot : Spot) (bytes : List ℕ) (parts : List PartModel) (there : Spot) (rest : List ℕ)
    → None ≡ next_fault (units_within spot bytes) → begins_with opens_word (units_within spot bytes) ≡ true
    → next_fault (after_text kind.Word (units_within spot bytes)) ≡ None
    → parts ≡ gathered kind.Word (units_within spot bytes)
    → units_within there rest ≡ after_text kind.Word (units_within spot bytes)
    → unless_bad word_at (line spot bytes) (others spot bytes)
    ≡ reply (Some (record { spot = spot; parts = parts })) (inside (lines_within there rest))
word_is_here spot bytes parts there rest n b e p r = grind (
  arith,
  spot_of_line,
  front_of,
  cut_has_line,
  passed_by,
  continues_here,
  begins_here,
  fault_after_word,
)

-- ---- values

pub value_fails_here : (spot : Spot) (bytes : List ℕ) (f : UnitFault)
    → next_fault (after_text kind.Value (units_within spot bytes)) ≡ Some f
    → value_at (line spot bytes) (others spot bytes) ≡ failing f
value_fails_here spot bytes f e = grind (arith, value_of_line, cut_has_line)

pub value_is_here : (spot : Spot) (bytes : List ℕ) (parts : List PartModel) (there : Spot) (rest : List ℕ)
    → next_fault (after_text kind.Value (units_within spot bytes)) ≡ None
    → parts ≡ gathered kind.Value (units_within spot bytes)
    → units_within there rest ≡ after_text kind.Value (units_within spot bytes)
    → value_at (line spot bytes) (others spot bytes)
    ≡ reply (record { spot = spot; parts = parts }) (inside (lines_within there rest))
value_is_here spot bytes parts there rest e p r = grind (arith, value_of_line, cut_has_line, spot_of_line)

-- ---- begin words

pub begins_badly : (spot : Spot) (bytes : List ℕ) (m : Meaning) → BeginsBadly spot bytes m
    → opens_word_meaning m ≡ false → false ≡ begins_with opens_word (units_within spot bytes)
begins_badly spot bytes m b e = rw b.2 (sym e)

pub begins_at_end : (spot : Spot) (bytes : List ℕ) → bytes ≡ []
    → false ≡ begins_with opens_word (units_within spot bytes)
unfolding cut
begins_at_end spot bytes e = rw e refl

pub identifier_fails : (spot : Spot) (bytes : List ℕ) (f : UnitFault)
    → Some f ≡ next_fault (units_within spot bytes)
    → unless_bad ident_at (line spot bytes) (others spot bytes) ≡ failing f
identifier_fails spot bytes f e = grind (arith, fails_here)

pub word_fails_at_once : (spot : Spot) (bytes : List ℕ) (f : UnitFault)
    → Some f ≡ next_fault (units_within spot bytes)
    → unless_bad word_at (line spot bytes) (others spot bytes) ≡ failing f
word_fails_at_once spot bytes f e = grind (arith, fails_here)

pub word_fails_or_lacks : (spot : Spot) (bytes : List ℕ) (f : WordFault)
    → None ≡ next_fault (units_within spot bytes) → begins_with opens_word (units_within spot bytes) ≡ true
    → FailsText f (next_fault (after_text kind.Word (units_within spot bytes)))
    → FailsStep (unless_bad word_at (line spot bytes) (others spot bytes)) f
word_fails_or_lacks spot bytes f n b e = grind (arith, word_fails_here)

pub value_fails_or_lacks : (spot : Spot) (bytes : List ℕ) (f : WordFault)
    → FailsText f (next_fault (after_text kind.Value (units_within spot bytes)))
    → FailsStep (value_at (line spot bytes) (others spot bytes)) f
value_fails_or_lacks spot bytes f e = grind (arith, value_fails_here)
