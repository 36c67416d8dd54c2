-- Plain words.
use Rattle.std.proofs.Common.{arith, ◌≡◌, ℕ, Bool, true, false, eqb, List, [], ◌∷◌, ◌++◌, length, drop, Some}
use Rattle.std.proofs.Common.{None}
use Rattle.std.proofs.Common.{refl, sym, ap, subst, ◌∙◌}
use Rattle.std.specs.List.{take_while}
use Rattle.std.proofs.lemmas.Bool.{eqb-true, false≢true}
use Rattle.nj_text.specs.declared.spot.Spot.{Spot}
use Rattle.nj_text.specs.declared.parts.TextKind.TheVariants as kind
use Rattle.nj_text.specs.declared.runs.Run.TheVariants as run
use Rattle.nj_text.specs.Bytes.{is_space, is_ordinary_byte, is_word_byte, drop_while, begins_with}
use Rattle.nj_text.specs.Units.{TextUnit, cut}
use Rattle.nj_text.specs.Inside.Scans.{advance, units_within}
use Rattle.nj_text.specs.Words.{is_blank, next_fault, Text, plain_model, opens_word}
use Rattle.nj_text.specs.Calls.{word_at, path_word_of}
use Rattle.nj_text.specs.Inside.Gathering.{gathered, after_text}
use Rattle.nj_text.specs.Inside.States.{reply, unless_bad, inside, lines_within}
use Rattle.nj_text.specs.Inside.PlainWords.{no_word_begins, word_ends}
use Rattle.nj_text.proofs.Cuts.{cut-ordinary, first_passes}
use Rattle.nj_text.proofs.Gathered.{run_read}
use Rattle.nj_text.proofs.Passed.{blanks_over_spaces}
use Rattle.nj_text.proofs.Steps.{at_cursor, no_word_here, word_is_here}

-- ---- one space

pub over_space : (spot there : Spot) (b : ℕ) (bytes rest tail : List ℕ) → bytes ≡ b ∷ tail → b ≡ 32
    → rest ≡ drop 1 bytes → there ≡ advance 1 spot
    → drop_while is_blank (units_within spot bytes) ≡ drop_while is_blank (units_within there rest)
over_space spot there b bytes rest tail e is_space r t =
    let whole : bytes ≡ 32 ∷ tail = e ∙ ap (λ x. x ∷ tail) is_space in
    let here : rest ≡ tail = r ∙ ap (drop 1) e in
    blanks_over_spaces spot bytes (32 ∷ []) tail whole (refl, tt)
    ∙ ap (λ p. drop_while is_blank (units_within p tail)) (sym t)
    ∙ ap (λ bs. drop_while is_blank (units_within there bs)) (sym here)

-- ---- the beginning of a word

-- the units at a place begin with neither a blank nor a fault, and whether they begin a word
abbrev StartsWith : Bool → List TextUnit → Type 0
StartsWith t us = (drop_while is_blank us ≡ us) × (next_fault us ≡ None) × (begins_with opens_word us ≡ t)

feed_starts : (spot : Spot) (bs : List ℕ) → StartsWith false (units_within spot (10 ∷ bs))
unfolding cut
feed_starts spot bs = (refl, refl, refl)

colon_starts : (spot : Spot) (bs : List ℕ) → StartsWith false (units_within spot (58 ∷ bs))
unfolding cut
colon_starts spot bs = (refl, refl, refl)

bar_starts : (spot : Spot) (bs : List ℕ) → StartsWith false (units_within spot (124 ∷ bs))
unfolding cut
bar_starts spot bs = (refl, refl, refl)

-- one byte of three
stop_is : (P : ℕ → Type 0) (b : ℕ) → P 10 → P 58 → P 124 → no_word_begins (b ∷ []) ≡ true → P b
stop_is h b feed colon bar h1 = grind arith

stop_starts : (spot : Spot) (bytes : List ℕ) → no_word_begins bytes ≡ true
    → StartsWith false (units_within spot bytes)
stop_starts spot [] h = absurd (false≢true h)
stop_starts spot (b ∷ bs) h = let P : ℕ → Type 0 = λ x. StartsWith false (units_within spot (x ∷ bs)) in
    stop_is P b (feed_starts spot bs) (colon_starts spot bs) (bar_starts spot bs) h

word_byte_is_ordinary : (b : ℕ) → is_word_byte b ≡ true → is_ordinary_byte b ≡ true
word_byte_is_ordinary b h = grind arith

word_byte_is_no_space : (b : ℕ) → is_word_byte b ≡ true → is_space b ≡ false
word_byte_is_no_space b h = grind arith

word_starts : (spot : Spot) (bytes : List ℕ) → eqb (length (take_while is_word_byte bytes)) 0 ≡ false
    → StartsWith true (units_within spot bytes)
word_starts spot bytes h = grind (
  arith,
  false≢true,
  first_passes,
  cut-ordinary,
  word_byte_is_ordinary,
  word_byte_is_no_space,
)

-- ---- the end of a word

-- a word ends at a place where the units do not begin with a fault
abbrev EndsWord : List TextUnit → Type 0
EndsWord us = (gathered kind.Word us ≡ []) × (after_text kind.Word us ≡ us) × (next_fault us ≡ None)

space_ends : (spot : Spot) (bs : List ℕ) → EndsWord (units_within spot (32 ∷ bs))
unfolding cut
space_ends spot bs = (refl, refl, refl)

feed_ends : (spot : Spot) (bs : List ℕ) → EndsWord (units_within spot (10 ∷ bs))
unfolding cut
feed_ends spot bs = (refl, refl, refl)

colon_ends : (spot : Spot) (bs : List ℕ) → EndsWord (units_within spot (58 ∷ bs))
unfolding cut
colon_ends spot bs = (refl, refl, refl)

bar_ends : (spot : Spot) (bs : List ℕ) → EndsWord (units_within spot (124 ∷ bs))
unfolding cut
bar_ends spot bs = (refl, refl, refl)

stop_ends : (spot : Spot) (bytes : List ℕ) → word_ends bytes ≡ true → EndsWord (units_within spot bytes)
stop_ends spot [] h = absurd (false≢true h)
stop_ends spot (b ∷ bs) h = by_space (eqb b 32) refl
  where
    by_space : (t : Bool) → eqb b 32 ≡ t → EndsWord (units_within spot (b ∷ bs))
    by_space true e = let P : ℕ → Type 0 = λ x. EndsWord (units_within spot (x ∷ bs)) in
        subst P (sym (eqb-true b 32 e)) (space_ends spot bs)
    by_space false e = let P : ℕ → Type 0 = λ x. EndsWord (units_within spot (x ∷ bs)) in
        stop_is P b (feed_ends spot bs) (colon_ends spot bs) (bar_ends spot bs) (rw e at h)

-- ---- the word

-- no word begins after at most one space
pub none_seen : (spot here : Spot) (bytes rest : List ℕ)
    → drop_while is_blank (units_within spot bytes) ≡ drop_while is_blank (units_within here rest)
    → no_word_begins rest ≡ true
    → path_word_of (inside (lines_within spot bytes)) ≡ reply None (inside (lines_within here rest))
none_seen spot here bytes rest e h =
    let starts = stop_starts here rest h in
    at_cursor (unless_bad word_at) spot here bytes rest (sym (e ∙ starts.0))
    ∙ no_word_here here rest (sym starts.1) starts.2

-- after at most one space, a run of its bytes is the whole word
pub run_seen : (spot here there : Spot) (bytes rest xs ys : List ℕ)
    → drop_while is_blank (units_within spot bytes) ≡ drop_while is_blank (units_within here rest)
    → xs ≡ take_while is_word_byte rest → ys ≡ drop_while is_word_byte rest → rest ≡ xs ++ ys
    → there ≡ advance (length xs) here
    → eqb (length xs) 0 ≡ false → word_ends ys ≡ true
    → path_word_of (inside (lines_within spot bytes))
    ≡ reply (Some (plain_model here xs)) (inside (lines_within there ys))
run_seen spot here there bytes rest xs ys e run_is after_is whole t nonempty stops =
    let starts = word_starts here rest (ap (λ zs. eqb (length zs) 0) (sym run_is) ∙ nonempty) in
    let read = run_read kind.Word run.Word here there rest xs ys refl run_is after_is whole t nonempty in
    let ends = stop_ends there ys stops in
    let parts = read.0 ∙ ap (λ ps. Text xs ∷ ps) ends.0 in
    let after = read.1 ∙ ends.1 in
    at_cursor (unless_bad word_at) spot here bytes rest (sym (e ∙ starts.0))
    ∙ word_is_here here rest (Text xs ∷ []) there ys (sym starts.1) starts.2
    (ap next_fault after ∙ ends.2) (sym parts) (sym after)
