-- Plain bindings.
use Rattle.std.proofs.Common.{◌≡◌, ℕ, ◌+◌, Bool, true, false, eqb, List, [], ◌∷◌, ◌++◌, length, drop, Some}
use Rattle.std.proofs.Common.{None, refl, sym, ap, ◌∙◌, arith}
use Rattle.std.specs.List.{take_while}
use Rattle.std.proofs.lemmas.Bool.{eqb-true, false≢true}
use Rattle.nj_text.specs.declared.spot.Spot.{Spot}
use Rattle.nj_text.specs.declared.parts.TextKind.TheVariants as kind
use Rattle.nj_text.specs.declared.runs.Run.TheVariants as run
use Rattle.nj_text.specs.declared.sign.Sign.TheVariants as sign
use Rattle.nj_text.specs.Bytes.{is_space, is_ordinary_byte, is_identifier_byte, drop_while}
use Rattle.nj_text.specs.Units.{LineEnd, TextUnit, AtStart, cut}
use Rattle.nj_text.specs.Inside.Scans.{advance, on_next_line, units_within, Begins}
use Rattle.nj_text.specs.Words.{is_blank, next_fault, Text, plain_model}
use Rattle.nj_text.specs.Calls.{Between, TakesBinding, skip_blanks_of, spot_of, ident_of, ident_at, sign_of}
use Rattle.nj_text.specs.Calls.{sign_at, value_of, value_at}
use Rattle.nj_text.specs.Inside.Gathering.{gathered, after_text}
use Rattle.nj_text.specs.Inside.States.{reply, unless_bad, inside, lines_from, lines_within}
use Rattle.nj_text.proofs.Cuts.{cut-ordinary, first_passes, advance-advance}
use Rattle.nj_text.proofs.Gathered.{run_read}
use Rattle.nj_text.proofs.Bridges.{line_ends}
use Rattle.nj_text.proofs.Steps.{at_cursor, identifier_is_ordinary, identifier_here, some_if_any}
use Rattle.nj_text.proofs.Steps.{value_is_here}
use Rattle.nj_text.proofs.States.{blanks_skipped, spot_inside, value_inside}
use Rattle.nj_text.proofs.SignsTaken.{sign_taken, line_end_taken}
use Rattle.nj_text.proofs.PlainWords.{over_space}

-- the units at a place begin with neither a blank nor a fault
abbrev Starts : List TextUnit → Type 0
Starts us = (drop_while is_blank us ≡ us) × (next_fault us ≡ None)

ordinary_starts : (spot : Spot) (b : ℕ) (bs : List ℕ) → is_ordinary_byte b ≡ true → is_space b ≡ false
    → Starts (units_within spot (b ∷ bs))
ordinary_starts spot b bs o s = rw (cut-ordinary spot b bs o) (rw s refl, refl)

feed_starts : (spot : Spot) (bs : List ℕ) → Starts (units_within spot (10 ∷ bs))
unfolding cut
feed_starts spot bs = (refl, refl)

-- ---- the name

identifier_is_no_space : (b : ℕ) → is_identifier_byte b ≡ true → is_space b ≡ false
identifier_is_no_space b h = grind arith

name_starts : (spot : Spot) (bytes : List ℕ) → eqb (length (take_while is_identifier_byte bytes)) 0 ≡ false
    → Starts (units_within spot bytes)
name_starts spot [] h = absurd (false≢true (sym h))
name_starts spot (b ∷ bs) h =
    let i = first_passes is_identifier_byte b bs h in
    ordinary_starts spot b bs (identifier_is_ordinary b i) (identifier_is_no_space b i)

skips_nothing : (spot : Spot) (bytes : List ℕ) → Starts (units_within spot bytes)
    → skip_blanks_of (inside (lines_within spot bytes)) ≡ inside (lines_within spot bytes)
skips_nothing spot bytes starts = sym (blanks_skipped spot spot bytes bytes (sym starts.0))

name_here : (spot there : Spot) (bytes xs ys : List ℕ) → Starts (units_within spot bytes) → bytes ≡ xs ++ ys
    → xs ≡ take_while is_identifier_byte bytes → ys ≡ drop_while is_identifier_byte bytes
    → there ≡ advance (length xs) spot → eqb (length xs) 0 ≡ false
    → ident_of (inside (lines_within spot bytes)) ≡ reply (Some xs) (inside (lines_within there ys))
name_here spot there bytes xs ys starts whole run_is after_is t nonempty = grind (
  arith,
  at_cursor (unless_bad ident_at) spot spot bytes bytes (sym starts.0),
  identifier_here spot there bytes xs ys whole run_is after_is t (sym starts.1),
  some_if_any xs nonempty,
)

-- ---- the sign

equals_here : (spot : Spot) (rest : List ℕ)
    → sign_of sign.Equals (inside (lines_within spot (32 ∷ 61 ∷ 32 ∷ rest)))
    ≡ reply true (inside (lines_within (advance 2 spot) (32 ∷ rest)))
equals_here spot rest =
    let starts = ordinary_starts (advance 1 spot) 61 (32 ∷ rest) refl refl in
    let over = over_space spot (advance 1 spot) 32 (32 ∷ 61 ∷ 32 ∷ rest) (61 ∷ 32 ∷ rest) (61 ∷ 32 ∷ rest)
    refl refl refl refl in
    at_cursor (unless_bad (sign_at sign.Equals)) spot (advance 1 spot) (32 ∷ 61 ∷ 32 ∷ rest) (61 ∷ 32 ∷ rest)
    (sym (over ∙ starts.0))
    ∙ sign_taken sign.Equals (advance 1 spot) (61 ∷ 32 ∷ rest) 1 (advance 2 spot) (32 ∷ rest) (λ e. absurd cc)
    (sym starts.1) refl (λ e. absurd cc) (sym (advance-advance 1 1 spot)) refl

-- ---- the value

abbrev EndsValue : List TextUnit → Type 0
EndsValue us = (gathered kind.Value us ≡ []) × (after_text kind.Value us ≡ us) × (next_fault us ≡ None)

feed_ends : (spot : Spot) (bs : List ℕ) → EndsValue (units_within spot (10 ∷ bs))
unfolding cut
feed_ends spot bs = (refl, refl, refl)

value_here : (spot here there : Spot) (rest xs zs : List ℕ) → here ≡ advance 1 spot
    → Starts (units_within here rest) → rest ≡ xs ++ 10 ∷ zs → xs ≡ take_while is_ordinary_byte rest
    → 10 ∷ zs ≡ drop_while is_ordinary_byte rest → there ≡ advance (length xs) here
    → eqb (length xs) 0 ≡ false
    → value_of (inside (lines_within spot (32 ∷ rest)))
    ≡ reply (plain_model here xs) (inside (lines_within there (10 ∷ zs)))
value_here spot here there rest xs zs e starts whole run_is after_is t nonempty =
    let over = over_space spot here 32 (32 ∷ rest) rest rest refl refl refl e in
    let read = run_read kind.Value run.Value here there rest xs (10 ∷ zs) refl run_is after_is whole t
    nonempty in
    let ends = feed_ends there zs in
    let parts = read.0 ∙ ap (λ ps. Text xs ∷ ps) ends.0 in
    let after = read.1 ∙ ends.1 in
    value_inside spot (32 ∷ rest) ∙ at_cursor value_at spot here (32 ∷ rest) rest (sym (over ∙ starts.0))
    ∙ value_is_here here rest (Text xs ∷ []) there (10 ∷ zs) (ap next_fault after ∙ ends.2) (sym parts)
    (sym after)

-- ---- the line's end

feed_begins : (spot : Spot) (zs : List ℕ)
    → Begins spot (10 ∷ zs) LineEnd 1 (cut AtStart 0 (on_next_line 0 spot) (drop 1 (10 ∷ zs)))
unfolding cut
feed_begins spot zs = refl

end_here : (spot : Spot) (zs : List ℕ) → sign_of sign.LineEnd (inside (lines_within spot (10 ∷ zs)))
    ≡ reply true (Between (lines_from (on_next_line 0 spot) zs))
end_here spot zs = grind (arith, feed_starts, line_ends, feed_begins, at_cursor, line_end_taken)

-- ---- the line

some_length : (b : ℕ) (bs : List ℕ) → eqb (length (b ∷ bs)) 0 ≡ false
some_length b bs = grind arith

value_starts : (spot : Spot) (b : ℕ) (rest xs bs ys : List ℕ) → rest ≡ xs ++ ys → xs ≡ b ∷ bs
    → xs ≡ take_while is_ordinary_byte rest → (b ≡ 32 → ⊥) → Starts (units_within spot rest)
value_starts spot b rest xs bs ys whole front run_is not_space =
    let first : rest ≡ b ∷ (bs ++ ys) = whole ∙ ap (λ zs. zs ++ ys) front in
    let passes : is_ordinary_byte b ≡ true =
    first_passes is_ordinary_byte b (bs ++ ys)
    (ap (λ zs. eqb (length (take_while is_ordinary_byte zs)) 0) (sym first)
    ∙ ap (λ zs. eqb (length zs) 0) (sym run_is ∙ front) ∙ some_length b bs) in
    rw first (ordinary_starts spot b (bs ++ ys) passes (by_test (is_space b) refl))
  where
    by_test : (t : Bool) → is_space b ≡ t → t ≡ false
    by_test true e = absurd (not_space (eqb-true b 32 e))
    by_test false e = refl

pub binding_seen : (spot equals text end after : Spot) (b feed : ℕ)
    (bytes name signs rest value vs ys zs next : List ℕ)
    → bytes ≡ name ++ signs → name ≡ take_while is_identifier_byte bytes
    → signs ≡ drop_while is_identifier_byte bytes → equals ≡ advance (length name) spot
    → eqb (length name) 0 ≡ false
    → signs ≡ 32 ∷ 61 ∷ 32 ∷ rest → text ≡ advance 3 equals
    → rest ≡ value ++ ys → value ≡ take_while is_ordinary_byte rest → ys ≡ drop_while is_ordinary_byte rest
    → end ≡ advance (length value) text → value ≡ b ∷ vs → (b ≡ 32 → ⊥)
    → ys ≡ feed ∷ zs → feed ≡ 10 → after ≡ on_next_line 0 end → next ≡ drop (1 + 0) ys
    → TakesBinding (inside (lines_within spot bytes)) (Between (lines_from after next)) spot name
    (plain_model text value)
binding_seen spot equals text end after b feed bytes name signs rest value vs ys zs next whole name_run
    signs_are equals_at named signs_is text_at rest_is value_run ys_are end_at value_is not_space ys_is
    feed_is after_at next_is =
    let starts = name_starts spot bytes (ap (λ xs. eqb (length xs) 0) (sym name_run) ∙ named) in
    let skipped = skips_nothing spot bytes starts in
    let ends : ys ≡ 10 ∷ zs = ys_is ∙ ap (λ x. x ∷ zs) feed_is in
    let nonempty : eqb (length value) 0 ≡ false = ap (λ xs. eqb (length xs) 0) value_is ∙ some_length b vs in
    let here : text ≡ advance 1 (advance 2 equals) = text_at ∙ sym (advance-advance 2 1 equals) in
    let left : next ≡ zs = next_is ∙ ap (drop 1) ends in
    record {
      place = ap spot_of skipped ∙ spot_inside spot bytes;
      after_name = inside (lines_within equals signs);
      name_taken = ap ident_of skipped ∙ name_here spot equals bytes name signs starts whole name_run
          signs_are equals_at named;
      after_equals = inside (lines_within (advance 2 equals) (32 ∷ rest));
      equals_taken = ap (λ bs. sign_of sign.Equals (inside (lines_within equals bs))) signs_is
          ∙ equals_here equals rest;
      after_value = inside (lines_within end (10 ∷ zs));
      value_taken = value_here (advance 2 equals) text end rest value zs here
          (value_starts text b rest value vs ys rest_is value_is value_run not_space)
          (rest_is ∙ ap (λ bs. value ++ bs) ends) value_run (sym ends ∙ ys_are) end_at nonempty;
      end_taken = end_here end zs ∙ ap (λ p. reply true (Between (lines_from p zs))) (sym after_at)
          ∙ ap (λ bs. reply true (Between (lines_from after bs))) (sym left);
    }
