-- Vectors whose lanes are looked up in a table of sixteen bytes.
use Rattle.std.proofs.lemmas.Grind.{common_steps}
use Rattle.std.proofs.Common.{◌≡◌, ℕ, ◌+◌, ◌*◌, ◌/◌, ◌<◌, List, map, length, get_or, replicate}
use Rattle.std.proofs.Common.{bit_and, refl, sym, ap, ◌∙◌, arith, w8}
use Rattle.std.proofs.lemmas.List.{get_or-map, length-map, ext_get_or}
use Rattle.std.proofs.lemmas.Nat.{and_le_r}
use Rattle.std.proofs.lemmas.Simd.{Each1-all, Each1-zip2, Each2-splat, length-zip2, zip2_splat, swz_l, SwzOk}
use Rattle.std.proofs.lemmas.Simd.{SwzOk-from_below, length-swz_l, get_or-swz_l_below}
use lib.Lanes.{zip2}
use Rattle.nj_text.proofs.LaneRuns.{hit, joined}

pub places_ok : (v : List ℕ) → length v ≡ 16 → SwzOk w8 16 16 0 (zip2 bit_and v (replicate 16 15))
places_ok v long =
    let small = Each1-all (λ a. bit_and a 15 < 16) (λ a. omega (arith, and_le_r a 15)) v in
    SwzOk-from_below w8 16 1 16 0 (zip2 bit_and v (replicate 16 15)) refl
    (omega (arith, length-zip2 bit_and v (replicate 16 15) long))
    (Each1-zip2 bit_and (λ j. j < 16) v (replicate 16 15)
    (Each2-splat (λ a b. bit_and a b < 16) v 16 15 small))

pub looked_up : (t v : List ℕ) → length v ≡ 16
    → swz_l w8 16 t 0 (zip2 bit_and v (replicate 16 15)) ≡ map (λ b. get_or t (bit_and b 15) 0) v
looked_up t v long =
    let js = zip2 bit_and v (replicate 16 15) in
    let is : js ≡ map (λ b. bit_and b 15) v = zip2_splat {Y = ℕ} bit_and v 16 15 long in
    let many : length js ≡ 16 = ap length is ∙ length-map v (λ b. bit_and b 15) ∙ long in
    ext_get_or 0 _ _ (length-swz_l w8 16 t 0 js ∙ many
    ∙ sym (length-map v (λ b. get_or t (bit_and b 15) 0) ∙ long)) (λ i h.
    let lt : i < 16 = omega (arith, length-swz_l w8 16 t 0 js, many, h) in
    let within : i < length v = omega (arith, long, lt) in
    let at : get_or js i 0 ≡ bit_and (get_or v i 0) 15 =
    ap (λ l. get_or l i 0) is ∙ get_or-map (λ b. bit_and b 15) v i 0 0 within in
    let below : get_or js i 0 < 16 = omega (arith, at, and_le_r (get_or v i 0) 15) in
    let first : 16 * ((0 + i) / 16) + get_or js i 0 ≡ get_or js i 0 = omega (arith, lt) in
    get_or-swz_l_below w8 16 t 0 js i (omega (arith, many, lt)) below
    ∙ ap (λ k. get_or t k 0) (first ∙ at)
    ∙ sym (get_or-map (λ b. get_or t (bit_and b 15) 0) v i 0 0 within))

map-same : (v : List ℕ) → v ≡ map (λ b. b) v
map-same v = grind (arith, common_steps)

-- where a byte is the byte of its place in the table
pub hits : (t v looked : List ℕ) → looked ≡ map (λ b. get_or t (bit_and b 15) 0) v
    → zip2 hit looked v ≡ map (λ b. hit (get_or t (bit_and b 15) 0) b) v
hits t v looked e = joined hit (λ b. get_or t (bit_and b 15) 0) (λ b. b) v e (map-same v)
