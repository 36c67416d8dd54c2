-- The cut of a text, unit by unit and run by run.
use Rattle.std.proofs.Common.{rules, ◌≡◌, ℕ, zero, suc, ◌+◌, ◌≤◌, Bool, true, false, not, eqb}
use Rattle.std.proofs.Common.{List, []}
use Rattle.std.proofs.Common.{◌∷◌, ◌++◌, length, take, drop, refl, sym, ap, ◌∙◌, append_assoc, arith}
use Rattle.std.proofs.Math.Numerals.{one-add}
use Rattle.std.specs.List.{prefix_len, take_while}
use Rattle.std.proofs.lemmas.List.{take_at, length-append}
use Rattle.std.proofs.lemmas.Bool.{eqb-true}
use Rattle.nj_text.specs.declared.spot.Spot.{Spot}
use Rattle.nj_text.specs.Bytes.{is_space, is_line_feed, is_ordinary_byte, is_name_byte, is_identifier_byte}
use Rattle.nj_text.specs.Units.{Ordinary, Reference, TextUnit, Position, Within, unit_at, position_after}
use Rattle.nj_text.specs.Units.{spot_after, cut, Found, after_dollar}
use Rattle.nj_text.specs.Inside.Scans.{spots_after}
use Rattle.nj_text.specs.Inside.Scans.{advance, on_next_line}
use Rattle.nj_text.proofs.Lists.{take_while-cons_yes, AllIn, AllIn-take_while}
use Rattle.nj_text.proofs.Lists.{AllIn-weaker, length-take_while}

-- bytes that belong to the unit before are passed
pub cut-skip : (position : Position) (n : ℕ) (spot : Spot) (bs : List ℕ) → n ≤ length bs
    → cut position n spot bs ≡ cut position 0 (spots_after (take n bs) spot) (drop n bs)
unfolding cut
cut-skip position zero spot bs h = refl
cut-skip position (suc n) spot [] h = absurd (omega arith)
cut-skip position (suc n) spot (b ∷ bs) h = cut-skip position n (spot_after b spot) bs (omega arith)

pub advance-advance : (m n : ℕ) (spot : Spot) → advance n (advance m spot) ≡ advance (m + n) spot
advance-advance m n spot = ap (λ c. record { line = spot.line; column = c }) (omega arith)

pub advance-zero : (spot : Spot) → advance 0 spot ≡ spot
advance-zero spot = ap (λ c. record { line = spot.line; column = c }) (omega arith)

-- bytes without a line feed lead along the line
pub spots_advance : (bs : List ℕ) (spot : Spot) → AllIn (λ b. not (is_line_feed b)) bs
    → spots_after bs spot ≡ advance (length bs) spot
spots_advance [] spot h = sym (advance-zero spot)
spots_advance (b ∷ bs) spot h = grind (
  arith,
  spots_advance bs (advance 1 spot) h.1,
  advance-advance 1 (length bs) spot,
  length bs,
  one-add (length bs),
)

-- the units of ordinary bytes at a place
abbrev pub plain_units : Spot → List ℕ → List TextUnit
plain_units spot [] = []
plain_units spot (b ∷ bs) = record { spot = spot; bytes = b ∷ []; means = Ordinary b } ∷ plain_units
    (advance 1 spot) bs

pub unit-ordinary : (b : ℕ) (bs : List ℕ) → is_ordinary_byte b ≡ true → unit_at b bs ≡ (Ordinary b, 0)
unit-ordinary b bs h = rw h refl

ordinary-no_feed : (b : ℕ) → is_ordinary_byte b ≡ true → is_line_feed b ≡ false
ordinary-no_feed b h = grind arith

pub not_feed : (b : ℕ) → is_ordinary_byte b ≡ true → not (is_line_feed b) ≡ true
not_feed b h = rw (ordinary-no_feed b h) refl

pub spot-ordinary : (b : ℕ) (spot : Spot) → is_ordinary_byte b ≡ true → spot_after b spot ≡ advance 1 spot
spot-ordinary b spot h = rw (ordinary-no_feed b h) refl

pub within-ordinary : (b : ℕ) → position_after Within (Ordinary b) ≡ Within
within-ordinary b = grind arith

pub cut-ordinary : (spot : Spot) (b : ℕ) (bs : List ℕ) → is_ordinary_byte b ≡ true
    → cut Within 0 spot (b ∷ bs) ≡ record { spot = spot; bytes = b ∷ []; means = Ordinary b } ∷ cut Within 0
    (advance 1 spot) bs
unfolding cut
cut-ordinary spot b bs h = rw (unit-ordinary b bs h, within-ordinary b, spot-ordinary b spot h) refl

-- a run of ordinary bytes within a line
pub cut-run : (spot : Spot) (xs bs : List ℕ) → AllIn is_ordinary_byte xs
    → cut Within 0 spot (xs ++ bs) ≡ plain_units spot xs ++ cut Within 0 (advance (length xs) spot) bs
cut-run spot [] bs h = ap (λ p. cut Within 0 p bs) (sym (advance-zero spot))
cut-run spot (x ∷ xs) bs h = grind (
  arith,
  length xs,
  advance-advance 1 (length xs) spot,
  one-add (length xs),
  cut-ordinary spot x (xs ++ bs) h.0,
  cut-run (advance 1 spot) xs bs h.1,
)

-- ---- where the bytes of a unit lead

-- n bytes without a line feed at the front lead along the line
pub lands : (xs ys : List ℕ) (n : ℕ) (spot : Spot) → AllIn (λ b. not (is_line_feed b)) xs → length xs ≡ n
    → spots_after (take n (xs ++ ys)) spot ≡ advance n spot
lands xs ys n spot h e = grind (arith, take_at, spots_advance)

AllIn-append : (p : ℕ → Bool) (xs ys : List ℕ) → AllIn p xs → AllIn p ys → AllIn p (xs ++ ys)
AllIn-append p [] ys h k = k
AllIn-append p (x ∷ xs) ys h k = (h.0, AllIn-append p xs ys h.1 k)

-- a name in braces after one more byte
pub braces_land : (b : ℕ) (name rest bytes : List ℕ) (spot : Spot) → is_line_feed b ≡ false
    → AllIn (λ c. not (is_line_feed c)) name → bytes ≡ name ++ 125 ∷ rest
    → spots_after (take (length name + 2) (b ∷ bytes)) spot ≡ advance (length name + 2) spot
braces_land b name rest bytes spot no_feed h e =
    let all : AllIn (λ c. not (is_line_feed c)) (b ∷ name ++ 125 ∷ []) =
    (rw no_feed refl, AllIn-append (λ c. not (is_line_feed c)) name (125 ∷ []) h (refl, tt)) in
    let long : length (b ∷ name ++ 125 ∷ []) ≡ length name + 2 = omega (arith, length-append name (125 ∷ []))
    in
    let whole : b ∷ bytes ≡ (b ∷ name ++ 125 ∷ []) ++ rest =
    ap (λ zs. b ∷ zs) (e ∙ sym (append_assoc name (125 ∷ []) rest)) in
    ap (λ zs. spots_after (take (length name + 2) zs) spot) whole
    ∙ lands (b ∷ name ++ 125 ∷ []) rest (length name + 2) spot all long

spaces-no_feed : (b : ℕ) → is_space b ≡ true → not (is_line_feed b) ≡ true
spaces-no_feed b h = rw (eqb-true b 32 h) refl

-- the spaces after a line end
spaces_land : (bs : List ℕ) (spot : Spot)
    → spots_after (take_while is_space bs) (record { line = spot.line + 1; column = 1 })
    ≡ on_next_line (prefix_len is_space bs) spot
spaces_land bs spot =
    let start : Spot = record { line = spot.line + 1; column = 1 } in
    let here = spots_advance (take_while is_space bs) start
    (AllIn-weaker is_space (λ b. not (is_line_feed b)) (take_while is_space bs) spaces-no_feed
    (AllIn-take_while is_space bs)) in
    here ∙ ap (λ c. record { line = spot.line + 1; column = c })
    (omega (arith, length-take_while is_space bs))

pub feed_lands : (bs : List ℕ) (spot : Spot)
    → spots_after (take (1 + prefix_len is_space bs) (10 ∷ bs)) spot
    ≡ on_next_line (prefix_len is_space bs) spot
feed_lands bs spot = rw (one-add (prefix_len is_space bs)) (spaces_land bs spot)

pub return_lands : (bs : List ℕ) (spot : Spot)
    → spots_after (take (2 + prefix_len is_space bs) (13 ∷ 10 ∷ bs)) spot
    ≡ on_next_line (prefix_len is_space bs) spot
return_lands bs spot = grind (arith, spaces_land)

identifier-no_feed : (b : ℕ) → is_identifier_byte b ≡ true → not (is_line_feed b) ≡ true
identifier-no_feed b h = grind arith

name-no_feed : (b : ℕ) → is_name_byte b ≡ true → not (is_line_feed b) ≡ true
name-no_feed b h = grind arith

pub identifiers_no_feed : (bs : List ℕ) → AllIn (λ b. not (is_line_feed b)) (take_while is_identifier_byte bs)
identifiers_no_feed bs = AllIn-weaker is_identifier_byte (λ b. not (is_line_feed b))
    (take_while is_identifier_byte bs) identifier-no_feed (AllIn-take_while is_identifier_byte bs)

pub names_no_feed : (bs : List ℕ) → AllIn (λ b. not (is_line_feed b)) (take_while is_name_byte bs)
names_no_feed bs = AllIn-weaker is_name_byte (λ b. not (is_line_feed b)) (take_while is_name_byte bs)
    name-no_feed (AllIn-take_while is_name_byte bs)

-- ---- names

excludes : (p : ℕ → Bool) (b n : ℕ) → p b ≡ true → p n ≡ false → eqb b n ≡ false
excludes p b n h e = grind arith

pub name-after_dollar : (b : ℕ) (bs : List ℕ) → is_name_byte b ≡ true
    → after_dollar (b ∷ bs) ≡ (
      Reference (b ∷ take_while is_name_byte bs),
      suc (length (take_while is_name_byte bs)),
    )
name-after_dollar b bs h = search rules

-- where the run at the front is not empty, the first byte passes
pub first_passes : (p : ℕ → Bool) (b : ℕ) (bs : List ℕ) → eqb (length (take_while p (b ∷ bs))) 0 ≡ false
    → p b ≡ true
first_passes p b bs h = grind arith

pub name_found : (b : ℕ) (bs bytes name : List ℕ) → bytes ≡ b ∷ bs → name ≡ take_while is_name_byte bytes
    → eqb (length name) 0 ≡ false → ◌≡◌ {A = Found} (Reference name, length name) (after_dollar bytes)
name_found b bs bytes name e n h =
    let here : name ≡ take_while is_name_byte (b ∷ bs) = n ∙ ap (take_while is_name_byte) e in
    let passes : is_name_byte b ≡ true = first_passes is_name_byte b bs (rw (← here) h) in
    let split : name ≡ b ∷ take_while is_name_byte bs = here ∙ take_while-cons_yes is_name_byte b bs passes in
    rw (e, name-after_dollar b bs passes, split) refl
