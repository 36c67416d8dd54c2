-- The first position of a part in a text: the result of a search for it.
use Rattle.std.proofs.lemmas.Grind.{common_steps}
use Rattle.std.proofs.Common.{if◌then◌else◌, ◌≡◌, ℕ, zero, suc, ◌+◌, true, false, List, [], ◌∷◌, Option, Some}
use Rattle.std.proofs.Common.{None, option_map, take, length, nat_eq, refl, sym, ap, ◌∙◌, arith, ⊎_elim}
use Rattle.std.specs.List.{starts_with}
use Rattle.std.proofs.lemmas.Bool.{cases_Bool, cond-true, cond-false, false≢true}
use Rattle.std.proofs.lemmas.List.{length-take}
use Rattle.std.proofs.lemmas.Slice.Eq.{bytes_eq-Decides}
use Rattle.memchr.specs.Find.{FindsNeedle, OccursAt}
use Rattle.memchr.proofs.lemmas.MatchLemmas.{OccursAt-part, OccursAt-from_part}
use Rattle.nj_graph.specs.ResponseFiles.{first_position}

module _ (part : List ℕ) where
  starts : (text : List ℕ) → OccursAt text part 0 → starts_with nat_eq text part ≡ true
  starts text occurs = (bytes_eq-Decides part (take (length part) text)).1
      (sym (OccursAt-part text part 0 occurs))

  comes : (text : List ℕ) → starts_with nat_eq text part ≡ true → OccursAt text part 0
  comes text h =
      let same : part ≡ take (length part) text = (bytes_eq-Decides part (take (length part) text)).0 h in
      let wide = ap length same ∙ length-take (length part) text in
      OccursAt-from_part text part 0 (omega (arith, wide)) (sym same)

  -- a byte more before the text
  later : (byte : ℕ) (text : List ℕ) (k : ℕ) → OccursAt text part k → OccursAt (byte ∷ text) part (suc k)
  later byte text k occurs = grind (arith, common_steps)

  earlier : (byte : ℕ) (text : List ℕ) (k : ℕ) → OccursAt (byte ∷ text) part (suc k) → OccursAt text part k
  earlier byte text k occurs = grind (arith, common_steps)

  -- found at the start
  at-start : (text : List ℕ) (r : Option ℕ) → FindsNeedle text part 0 r → OccursAt text part 0 → r ≡ Some 0
  at-start text None h occurs = absurd (h 0 (omega arith) (omega arith) occurs)
  at-start text (Some zero) h occurs = refl
  at-start text (Some (suc k)) h occurs = absurd (h.0.before 0 (omega arith) (omega arith) occurs)

  by-start : (text : List ℕ) (r other : Option ℕ) → FindsNeedle text part 0 r
      → (starts_with nat_eq text part ≡ false → r ≡ other)
      → r ≡ (if starts_with nat_eq text part then Some 0 else other)
  by-start text r other h elsewhere =
      ⊎_elim (λ t. at-start text r h (comes text t) ∙ sym (cond-true _ _ _ t))
      (λ f. elsewhere f ∙ sym (cond-false _ _ _ f)) (cases_Bool (starts_with nat_eq text part))

  not-start : (text : List ℕ) → starts_with nat_eq text part ≡ false → OccursAt text part 0 → ⊥
  not-start text f occurs = false≢true (sym f ∙ starts text occurs)

  in-none : (r : Option ℕ) → FindsNeedle [] part 0 r → starts_with nat_eq [] part ≡ false → r ≡ None
  in-none None h f = refl
  in-none (Some zero) h f = absurd (not-start [] f h.1)
  in-none (Some (suc k)) h f = absurd (omega (arith, h.1.fits))

  -- in the text after the first byte
  in-rest : (byte : ℕ) (text : List ℕ) → ((r : Option ℕ) → FindsNeedle text part 0 r
      → r ≡ first_position part text)
      → (r : Option ℕ) → FindsNeedle (byte ∷ text) part 0 r → starts_with nat_eq (byte ∷ text) part ≡ false
      → r ≡ option_map (λ n. n + 1) (first_position part text)
  in-rest byte text found None h f = ap (option_map (λ n. n + 1))
      (found None (λ k low high occurs. h (suc k) (omega arith) (omega (arith, high))
      (later byte text k occurs)))
  in-rest byte text found (Some zero) h f = absurd (not-start (byte ∷ text) f h.1)
  in-rest byte text found (Some (suc k)) h f =
      let same : suc k ≡ k + 1 = omega arith in
      let high = h.0.high in
      ap (λ n. Some n) same
      ∙ ap (option_map (λ n. n + 1)) (found (Some k) (
        record {
          low = omega arith;
          high = omega (arith, high);
          before =
              λ j low below occurs. h.0.before (suc j) (omega arith) (omega (arith, below))
              (later byte text j occurs);
        },
        earlier byte text k h.1,
      ))

  pub found-first : (text : List ℕ) (r : Option ℕ) → FindsNeedle text part 0 r → r ≡ first_position part text
  found-first [] r h = by-start [] r None h (in-none r h)
  found-first (byte ∷ text) r h = by-start (byte ∷ text) r
      (option_map (λ n. n + 1) (first_position part text)) h (in-rest byte text (found-first text) r h)
