-- Runs of bytes, seen sixteen at a time through the mask of the bytes that end them.
use Rattle.std.proofs.Common.{◌≡◌, ℕ, ◌+◌, ◌*◌, ◌%◌, ◌^◌, ◌<◌, ◌≤◌, Bool, true, not, cond, eqb, List}
use Rattle.std.proofs.Common.{[], ◌∷◌, map, length, drop, replicate, Fits, w8, refl, sym, ap, ap₂, ◌∙◌, arith}
use Rattle.std.proofs.lemmas.Simd.{mask_l-mod, chunk-drop, length-chunk, leading_from_mask_l, trailing_mask_l}
use Rattle.std.proofs.lemmas.List.{length-map}
use Rattle.std.proofs.lemmas.List.Folds.{prefix_len-append}
use Rattle.std.proofs.lemmas.List.Sums.{prefix_len-le-length}
use Rattle.std.proofs.lemmas.Bool.{agree_below, agree_below_at, eq-eqb, ne_eqb}
use Rattle.std.specs.List.{prefix_len}
use lib.Lanes.{chunk, zip2, mask_l, top, Each1}
use lib.Count.{count_trailing_zeros}

-- ---- vectors that are computed lane by lane

zip2-map : (h : ℕ → ℕ → ℕ) (f g : ℕ → ℕ) (xs : List ℕ)
    → zip2 h (map f xs) (map g xs) ≡ map (λ x. h (f x) (g x)) xs
zip2-map h f g [] = refl
zip2-map h f g (x ∷ xs) = ap (λ r. h (f x) (g x) ∷ r) (zip2-map h f g xs)

-- an operation on two vectors that were computed from v
pub joined : (h : ℕ → ℕ → ℕ) (f g : ℕ → ℕ) (v : List ℕ) {a b : List ℕ} → a ≡ map f v → b ≡ map g v
    → zip2 h a b ≡ map (λ x. h (f x) (g x)) v
joined h f g v p q = ap₂ (zip2 h) p q ∙ zip2-map h f g v

pub splat_is : (v : List ℕ) (n y : ℕ) → length v ≡ n → replicate n y ≡ map (λ _. y) v
splat_is [] n y e = ap (λ k. replicate k y) (sym e)
splat_is (x ∷ xs) n y e = ap (λ k. replicate k y) (sym e) ∙ ap (λ r. y ∷ r) (splat_is xs (length xs) y refl)

abbrev pub hit : ℕ → ℕ → ℕ
hit a b = cond (eqb a b) 255 0

each_byte : (f : ℕ → ℕ) (p : ℕ → Bool) → agree_below (λ x. top 7 (f x)) p 256 ≡ true → (v : List ℕ)
    → Each1 (Fits w8) v → map (top 7) (map f v) ≡ map p v
each_byte f p all [] fits = refl
each_byte f p all (x ∷ xs) fits = ap₂ (λ a b. a ∷ b)
    (agree_below_at (λ y. top 7 (f y)) p 256 x all fits.0.fits) (each_byte f p all xs fits.1)

-- the mask of a test that was computed for each of the 256 bytes
pub masked : (f : ℕ → ℕ) (p : ℕ → Bool) (v z : List ℕ) → length v ≤ 64 → Each1 (Fits w8) v → z ≡ map f v
    → agree_below (λ x. top 7 (f x)) p 256 ≡ true → mask_l (map (top 7) z) % 2 ^ 64 ≡ mask_l (map p v)
masked f p v z short fits e all = grind (
  arith,
  map (top 7),
  each_byte f p all v fits,
  mask_l-mod (map p v) 64 (omega (arith, length-map v p)),
  map p v,
  length-map v p,
)

-- ---- a run, a vector at a time

not-not : (b : Bool) → not (not b) ≡ b
not-not b = grind arith

none_fails : (b : Bool) (n l m : ℕ) → n ≤ l → cond (not b) (1 + n) 0 ≡ 1 + l → (n ≡ l → m ≡ 0)
    → cond b 1 0 + 2 * m ≡ 0
none_fails b n l m le e ih = grind arith

module _ (q : ℕ → Bool) where
  abbrev stops : ℕ → Bool
  stops b = not (q b)

  same_run : (xs : List ℕ) → prefix_len q xs ≡ prefix_len (λ x. not (stops x)) xs
  same_run [] = refl
  same_run (x ∷ xs) = ap₂ (λ b n. cond b (1 + n) 0) (sym (not-not (q x))) (same_run xs)

  all_pass : (xs : List ℕ) → prefix_len (λ x. not (stops x)) xs ≡ length xs → mask_l (map stops xs) ≡ 0
  all_pass [] e = refl
  all_pass (x ∷ xs) e = none_fails (stops x) _ (length xs) _ (prefix_len-le-length (λ y. not (stops y)) xs)
      (omega arith) (all_pass xs)

  split : (d : List ℕ) (i n : ℕ) → prefix_len q (drop i d)
      ≡ cond (eqb (prefix_len q (chunk i n d)) (length (chunk i n d)))
      (length (chunk i n d) + prefix_len q (drop (i + n) d)) (prefix_len q (chunk i n d))
  split d i n = ap (prefix_len q) (chunk-drop i n d) ∙ prefix_len-append q (chunk i n d) (drop (i + n) d)

  pub run_through : (d : List ℕ) (i n : ℕ) → i + n ≤ length d → mask_l (map stops (chunk i n d)) ≡ 0
      → prefix_len q (drop i d) ≡ n + prefix_len q (drop (i + n) d)
  run_through d i n capacity none =
      let c = chunk i n d in
      split d i n ∙ ap (λ b. cond b (length c + prefix_len q (drop (i + n) d)) (prefix_len q c))
      (eq-eqb _ _ (same_run c ∙ leading_from_mask_l stops c none))
      ∙ ap (λ k. k + prefix_len q (drop (i + n) d)) (length-chunk i n d capacity)

  pub run_stops : (d : List ℕ) (i n : ℕ) → i + n ≤ length d → n ≤ 64 → 0 < mask_l (map stops (chunk i n d))
      → prefix_len q (drop i d) ≡ count_trailing_zeros 64 (mask_l (map stops (chunk i n d)))
  run_stops d i n capacity short some =
      let c = chunk i n d in
      split d i n ∙ ap (λ b. cond b (length c + prefix_len q (drop (i + n) d)) (prefix_len q c))
      (ne_eqb _ _ (λ (e : prefix_len q c ≡ length c). omega (arith, all_pass c (sym (same_run c) ∙ e))))
      ∙ same_run c ∙ sym (trailing_mask_l stops 64 c (omega (arith, length-chunk i n d capacity)) some)
