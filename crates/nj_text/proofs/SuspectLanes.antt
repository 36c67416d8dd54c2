-- Bytes that are suspect before the next one, seen sixteen at a time.
use Rattle.std.proofs.Common.{◌≡◌, ℕ, zero, suc, ◌+◌, ◌-◌, ◌*◌, ◌%◌, ◌^◌, ◌≤◌, Bool, true, false, not, cond}
use Rattle.std.proofs.Common.{eqb, bit_and, bit_or, List, [], ◌∷◌, map, length, take, drop, replicate, refl}
use Rattle.std.proofs.Common.{sym, ap, ap₂, ◌∙◌, arith}
use Rattle.std.specs.Prelude.{◌||◌, ◌&&◌}
use Rattle.std.proofs.lemmas.Bool.{or_left, or_right, or_parts}
use Rattle.std.proofs.lemmas.Bool.Decides.{nat_tests}
use Rattle.std.proofs.lemmas.List.{take-append-drop, take-take, drop-take, drop-drop, take_all, length-drop}
use Rattle.std.proofs.lemmas.List.Folds.{list_any-append}
use Rattle.std.proofs.lemmas.Simd.{mask_l-mod, zip2_splat, length-zip2}
use Rattle.nj_text.specs.Inside.Cleaning.{is_suspect, suspects, any}
use Rattle.nj_text.proofs.LaneRuns.{hit, joined}
use lib.Lanes.{chunk, zip2, mask_l, top}

-- ---- the mask of two vectors

suspect_bits : (s t u : Bool) → top 7 (bit_and (cond s 255 0) (bit_or (cond t 255 0) (cond u 255 0))) ≡ s
    && (t || u)
suspect_bits s t u = grind arith

suspect_pairs : (v w : List ℕ) → map (top 7)
    (zip2 bit_and (map (λ a. hit a 47) v) (map (λ b. bit_or (hit b 47) (hit b 46)) w)) ≡ zip2 is_suspect v w
suspect_pairs [] w = refl
suspect_pairs (a ∷ v) [] = refl
suspect_pairs (a ∷ v) (b ∷ w) = ap₂ (λ t ts. t ∷ ts) (suspect_bits (eqb a 47) (eqb b 47) (eqb b 46))
    (suspect_pairs v w)

pub suspect_mask : (v w : List ℕ) → length v ≡ 16 → length w ≡ 16
    → mask_l (map (top 7) (zip2 bit_and (zip2 hit v (replicate 16 47))
    (zip2 bit_or (zip2 hit w (replicate 16 47)) (zip2 hit w (replicate 16 46))))) % 2 ^ 64
    ≡ mask_l (zip2 is_suspect v w)
suspect_mask v w long even =
    ap (λ l. mask_l (map (top 7) l) % 2 ^ 64)
    (ap₂ (zip2 bit_and) (zip2_splat hit v 16 47 long)
    (joined bit_or _ _ w (zip2_splat hit w 16 47 even) (zip2_splat hit w 16 46 even)))
    ∙ ap (λ l. mask_l l % 2 ^ 64) (suspect_pairs v w)
    ∙ mask_l-mod (zip2 is_suspect v w) 64 (omega (arith, length-zip2 is_suspect v w (long ∙ sym even), long))

-- ---- a part of the pairs is the pairs of a part

module _ {X Y Z : Type 0} (f : X → Y → Z) where
  zip2-none : (xs : List X) → zip2 f xs [] ≡ []
  zip2-none [] = refl
  zip2-none (x ∷ xs) = refl

  take-zip2 : (n : ℕ) (xs : List X) (ys : List Y) → zip2 f (take n xs) (take n ys) ≡ take n (zip2 f xs ys)
  take-zip2 zero xs ys = refl
  take-zip2 (suc n) [] ys = refl
  take-zip2 (suc n) (x ∷ xs) [] = refl
  take-zip2 (suc n) (x ∷ xs) (y ∷ ys) = ap (λ zs. f x y ∷ zs) (take-zip2 n xs ys)

  drop-zip2 : (n : ℕ) (xs : List X) (ys : List Y) → zip2 f (drop n xs) (drop n ys) ≡ drop n (zip2 f xs ys)
  drop-zip2 zero xs ys = refl
  drop-zip2 (suc n) [] ys = refl
  drop-zip2 (suc n) (x ∷ xs) [] = zip2-none (drop n xs)
  drop-zip2 (suc n) (x ∷ xs) (y ∷ ys) = drop-zip2 n xs ys

pub suspect_chunk : (text : List ℕ) (i n : ℕ)
    → zip2 is_suspect (chunk i n text) (chunk (i + 1) n text) ≡ chunk i n (suspects text)
suspect_chunk text i n =
    let next : drop (i + 1) text ≡ drop i (drop 1 text) =
    ap (λ k. drop k text) (omega arith) ∙ sym (drop-drop i 1 text) in
    ap (λ ys. zip2 is_suspect (chunk i n text) (take n ys)) next
    ∙ take-zip2 is_suspect n (drop i text) (drop i (drop 1 text))
    ∙ ap (take n) (drop-zip2 is_suspect i text (drop 1 text))

-- ---- some lane is suspect where the mask is not 0

pub mask_any : (tests : List Bool) → not (eqb (mask_l tests) 0) ≡ any tests
mask_any [] = refl
mask_any (true ∷ tests) = grind (arith, nat_tests)
mask_any (false ∷ tests) = double (mask_l tests) ∙ mask_any tests
  where
    double : (m : ℕ) → not (eqb (0 + 2 * m) 0) ≡ not (eqb m 0)
    double zero = refl
    double (suc m) = grind (arith, nat_tests)

-- ---- the loop over the vectors

any_cut : (i : ℕ) (tests : List Bool) → any tests ≡ any (take i tests) || any (drop i tests)
any_cut i tests = ap any (sym (take-append-drop i tests))
    ∙ list_any-append (λ t. t) (take i tests) (drop i tests)

pub any_found : (tests : List Bool) (i n : ℕ) → any (chunk i n tests) ≡ true → any tests ≡ true
any_found tests i n e =
    let after : any (drop i tests) ≡ true =
    any_cut n (drop i tests) ∙ or_left (any (chunk i n tests)) (any (drop n (drop i tests))) e in
    any_cut i tests ∙ or_right (any (take i tests)) (any (drop i tests)) after

pub none_more : (tests : List Bool) (i n : ℕ) → any (take i tests) ≡ false → any (chunk i n tests) ≡ false
    → any (take (i + n) tests) ≡ false
none_more tests i n front e = grind (
  arith,
  any_cut i (take (i + n) tests),
  take (i + n) tests,
  ap₂ (λ s t. any s || any t) (take-take i (i + n) tests (omega arith)) (drop-take i n tests),
  take-take i (i + n) tests (omega arith),
  drop-take i n tests,
  ap₂ (λ s t. s || t) front e,
)

-- at most as many pairs as bytes, less one
suspects_short : (text : List ℕ) → length (suspects text) ≤ length text - 1
suspects_short [] = omega arith
suspects_short (b ∷ []) = omega arith
suspects_short (b ∷ c ∷ bs) = let rest = suspects_short (c ∷ bs) in omega (arith, rest)

-- where no pair below i is suspect, a suspect pair of the text is in its last vector
pub any_last : (text : List ℕ) (i last n : ℕ) → last ≤ i → length text ≤ last + n + 1
    → any (take i (suspects text)) ≡ false → any (chunk last n (suspects text)) ≡ any (suspects text)
any_last text i last n low short none =
    let tests = suspects text in
    let whole : chunk last n tests ≡ drop last tests =
    take_all n (drop last tests) (omega (arith, length-drop last tests, suspects_short text)) in
    let front : any (take last tests) ≡ false =
    ap any (sym (take-take last i tests low))
    ∙ (or_parts (any (take last (take i tests))) (any (drop last (take i tests)))
    (sym (any_cut last (take i tests)) ∙ none)).0 in
    ap any whole ∙ sym (any_cut last tests ∙ ap (λ t. t || any (drop last tests)) front)
