-- The next unit of a line, as an equation on the units that are left.
use Rattle.std.proofs.Common.{◌≡◌, ℕ, suc, ◌+◌, ◌≤◌, Bool, true, false, cond, ◌&&◌, eqb, List, [], ◌∷◌}
use Rattle.std.proofs.Common.{length, take, drop, refl, sym, ap, ◌∙◌, arith, eq-eqb}
use Rattle.std.proofs.Math.Numerals.{one-add}
use Rattle.std.proofs.lemmas.Bool.{eqb-true, false≢true}
use Rattle.nj_text.specs.declared.spot.Spot.{Spot}
use Rattle.nj_text.specs.Bytes.{is_ordinary_byte}
use Rattle.nj_text.specs.Units.{Meaning, Ordinary, Escape, Reference, Join, LineEnd, BadByte, BadEscape}
use Rattle.nj_text.specs.Units.{Found, AtStart, Within, position_after, spot_after, after_dollar, unit_at}
use Rattle.nj_text.specs.Units.{cut}
use Rattle.nj_text.specs.Inside.Scans.{spots_after}
use Rattle.nj_text.specs.Inside.Scans.{advance, on_next_line, line_end_length, units_within, Begins}
use Rattle.nj_text.specs.Inside.Scans.{BeginsBadly, is_first}
use Rattle.nj_text.proofs.Cuts.{cut-skip, cut-ordinary}

pub cut-dollar : (spot : Spot) (bs : List ℕ) (m : Meaning) (n : ℕ) → ◌≡◌ {A = Found} (m, n) (after_dollar bs)
    → n ≤ length bs
    → cut Within 0 spot (36 ∷ bs) ≡ record { spot = spot; bytes = 36 ∷ take n bs; means = m } ∷ cut
    (position_after Within m) 0 (spots_after (take n bs) (advance 1 spot)) (drop n bs)
unfolding cut
cut-dollar spot bs m n e h = grind (arith, take, cut-skip)

pub join_unit : (end spaces : ℕ) (bs : List ℕ) → ◌≡◌ {A = Found} (Join, end + spaces) (after_dollar bs)
    → ((spot : Spot) → spots_after (take (end + spaces) bs) spot ≡ on_next_line spaces spot)
    → end + spaces ≤ length bs
    → (spot : Spot) → Begins spot (36 ∷ bs) Join (1 + end + spaces)
    (units_within (on_next_line spaces spot) (drop (1 + end + spaces) (36 ∷ bs)))
join_unit end spaces bs e lands h spot =
    let n : 1 + end + spaces ≡ suc (end + spaces) = omega arith in
    rw n (cut-dollar spot bs Join (end + spaces) e h
    ∙ ap (λ p. record { spot = spot; bytes = 36 ∷ take (end + spaces) bs; means = Join } ∷ cut Within 0 p
    (drop (end + spaces) bs)) (lands (advance 1 spot)))

advance-two : (n : ℕ) (spot : Spot) → advance n (advance 1 spot) ≡ advance (suc n) spot
advance-two n spot = ap (λ c. record { line = spot.line; column = c }) (omega arith)

pub reference_unit : (name : List ℕ) (n : ℕ) (bs : List ℕ)
    → ◌≡◌ {A = Found} (Reference name, n) (after_dollar bs)
    → ((spot : Spot) → spots_after (take n bs) spot ≡ advance n spot) → n ≤ length bs
    → (spot : Spot) → Begins spot (36 ∷ bs) (Reference name) (1 + n)
    (units_within (advance (1 + n) spot) (drop (1 + n) (36 ∷ bs)))
reference_unit name n bs e lands h spot = grind (
  arith,
  one-add n,
  cut-dollar spot bs (Reference name) n e h,
  take n bs,
  drop n bs,
  advance-two n spot,
)

pub escape_unit : (b : ℕ) (bs : List ℕ) → ◌≡◌ {A = Found} (Escape b, 1) (after_dollar bs)
    → ((spot : Spot) → spots_after (take 1 bs) spot ≡ advance 1 spot) → 1 ≤ length bs
    → (spot : Spot) → Begins spot (36 ∷ bs) (Escape b) 2 (units_within (advance 2 spot) (drop 2 (36 ∷ bs)))
escape_unit b bs e lands h spot = grind (
  arith,
  cut-dollar spot bs (Escape b) 1 e h,
  take 1 bs,
  drop 1 bs,
  advance-two 1 spot,
)

pub bad_escape_unit : (bs : List ℕ) → ◌≡◌ {A = Found} (BadEscape, 0) (after_dollar bs) → (spot : Spot)
    → BeginsBadly spot (36 ∷ bs) BadEscape
bad_escape_unit bs e spot = grind (arith, cut-dollar spot bs BadEscape 0 e (omega arith))

feed_unit : (bs : List ℕ) (spot : Spot)
    → Begins spot (10 ∷ bs) LineEnd 1 (cut AtStart 0 (on_next_line 0 spot) (drop 1 (10 ∷ bs)))
unfolding cut
feed_unit bs spot = refl

return_unit : (bs : List ℕ) (spot : Spot)
    → Begins spot (13 ∷ 10 ∷ bs) LineEnd 2 (cut AtStart 0 (on_next_line 0 spot) (drop 2 (13 ∷ 10 ∷ bs)))
unfolding cut
return_unit bs spot = refl

-- the end of a line
abbrev EndsHere : List ℕ → ℕ → Type 0
EndsHere bytes n = (spot : Spot) → Begins spot bytes LineEnd n
    (cut AtStart 0 (on_next_line 0 spot) (drop n bytes))

return_ends : (bs : List ℕ) (t : Bool) → is_first 10 bs ≡ t → t ≡ true → EndsHere (13 ∷ bs) 2
return_ends bs t e h = grind (arith, false≢true, eqb-true, return_unit)

pub line_end_unit : (bytes : List ℕ) (n : ℕ) → n ≡ line_end_length bytes → eqb n 0 ≡ false → EndsHere bytes n
line_end_unit [] n e h = absurd (false≢true (sym h ∙ ap (λ k. eqb k 0) e))
line_end_unit (b ∷ bs) n e h = by_feed (eqb b 10) refl
  where
    by_follower : (t : Bool) → is_first 10 bs ≡ t → b ≡ 13 → n ≡ cond t 2 0 → EndsHere (b ∷ bs) n
    by_follower true f r k = rw (r, k) (return_ends bs true f refl)
    by_follower false f r k = absurd (false≢true (sym h ∙ ap (λ x. eqb x 0) k))

    by_return : (t : Bool) → eqb b 13 ≡ t → n ≡ cond (t && is_first 10 bs) 2 0 → EndsHere (b ∷ bs) n
    by_return true f k = by_follower (is_first 10 bs) refl (eqb-true b 13 f) k
    by_return false f k = absurd (false≢true (sym h ∙ ap (λ x. eqb x 0) k))

    by_feed : (t : Bool) → eqb b 10 ≡ t → EndsHere (b ∷ bs) n
    by_feed true f = rw (eqb-true b 10 f, e ∙ ap (λ t. cond t 1 (cond (eqb b 13 && is_first 10 bs) 2 0)) f)
        (feed_unit bs)
    by_feed false f = by_return (eqb b 13) refl
        (e ∙ ap (λ t. cond t 1 (cond (eqb b 13 && is_first 10 bs) 2 0)) f)

suc_not_zero : {n : ℕ} → suc n ≡ 0 → ⊥
suc_not_zero e = omega arith

bad_byte : (b : ℕ) (bs : List ℕ) → unit_at b bs ≡ (BadByte, 0) → (spot : Spot)
    → BeginsBadly spot (b ∷ bs) BadByte
unfolding cut
bad_byte b bs e spot = (1, cut Within 0 (spot_after b spot) bs, rw e refl)

pub bad_byte_unit : (b : ℕ) (bs : List ℕ) → is_ordinary_byte b ≡ false → eqb b 36 ≡ false
    → line_end_length (b ∷ bs) ≡ 0 → (spot : Spot) → BeginsBadly spot (b ∷ bs) BadByte
bad_byte_unit b bs o d l = grind (arith, bad_byte, eqb)

pub ordinary_unit : (b : ℕ) (bs : List ℕ) → is_ordinary_byte b ≡ true → (spot : Spot)
    → Begins spot (b ∷ bs) (Ordinary b) 1 (units_within (advance 1 spot) (drop 1 (b ∷ bs)))
ordinary_unit b bs h spot = cut-ordinary spot b bs h

pub eqb_self : (b : ℕ) → eqb b b ≡ true
eqb_self b = eq-eqb b b refl
