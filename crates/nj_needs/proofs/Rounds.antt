-- Rounds of validations: each list begins with the one before, and after as many rounds as there are edges it
-- stays.
use Rattle.std.proofs.Common.{◌≡◌, ℕ, zero, suc, ◌+◌, ◌<◌, ◌≤◌, Option, List, [], ◌∷◌, ◌++◌, length, map}
use Rattle.std.proofs.Common.{refl, sym, ap, subst, ◌∙◌, ◌⊎◌, inl, inr, arith, length-append}
use Rattle.std.specs.List.{flat_map}
use Rattle.std.proofs.lemmas.Bool.{cases_lt}
use Rattle.std.proofs.lemmas.List.{append-nil}
use Rattle.nj_needs.specs.Order.{order, made_by, unfolded, unfolded_row}
use Rattle.nj_needs.proofs.Fronts.{IsFront, front-append, front-map, front-flat_map, front-first}

-- X is the type of files, `maker` the edge that makes a file, and `checks` are the validations of an edge
module _ (X : Type 0) (makers : ℕ → List (Option ℕ)) (count : ℕ) (maker : X → Option ℕ) (checks : ℕ → List X)
    (targets : List X) where
  abbrev pub order_of : List X → List ℕ
  order_of files = order makers count (map maker files)

  abbrev pub with_checks : List ℕ → List X
  with_checks es = targets ++ flat_map checks es

  abbrev pub next_round : List X → List X
  next_round files = with_checks (order_of files)

  pub front-checks : (es fs : List ℕ) → IsFront es fs → IsFront (with_checks es) (with_checks fs)
  front-checks es fs h = front-append targets (flat_map checks es) (flat_map checks fs)
      (front-flat_map checks es fs h)

  pub front-order : (xs ys : List X) → IsFront xs ys → IsFront (order_of xs) (order_of ys)
  front-order xs ys h =
      front-first (unfolded_row makers count (map maker xs)) (unfolded_row makers count (map maker ys))
      (front-flat_map (made_by (unfolded makers count)) (map maker xs) (map maker ys)
      (front-map maker xs ys h))

  pub front-round : (xs ys : List X) → IsFront xs ys → IsFront (next_round xs) (next_round ys)
  front-round xs ys h = front-checks (order_of xs) (order_of ys) (front-order xs ys h)

  -- the lists after each round
  module _ (R : ℕ → List X) (start : R 0 ≡ targets) (next : (n : ℕ) → R (suc n) ≡ next_round (R n)) where
    -- any list that a round leaves unchanged begins with each of them
    pub front-fixed : (files : List X) → files ≡ next_round files → (n : ℕ) → IsFront (R n) files
    front-fixed files fixed zero = (
      flat_map checks (order_of files),
      fixed
          ∙ ap (λ (ts : List X). ts ++ flat_map checks (order_of files)) (sym start),
    )
    front-fixed files fixed (suc n) =
        let r = front-round (R n) files (front-fixed files fixed n) in
        (r.0, fixed ∙ r.1 ∙ ap (λ (ts : List X). ts ++ r.0) (sym (next n)))

    pub front-more : (n : ℕ) → IsFront (R n) (R (suc n))
    front-more zero = (
      flat_map checks (order_of (R 0)),
      next 0
          ∙ ap (λ (ts : List X). ts ++ flat_map checks (order_of (R 0))) (sym start),
    )
    front-more (suc n) =
        let r = front-round (R n) (R (suc n)) (front-more n) in
        (r.0, next (suc n) ∙ r.1 ∙ ap (λ (ts : List X). ts ++ r.0) (sym (next n)))

    abbrev Stays : ℕ → Type 0
    Stays n = R (suc n) ≡ R n

    stays-next : (n : ℕ) → Stays n → Stays (suc n)
    stays-next n h = next (suc n) ∙ ap next_round h ∙ sym (next n)

    -- a round that adds something was reached by more edges
    adds : (n : ℕ) → Stays n ⊎ (n < length (order_of (R n)))
    adds zero = by (order_of (R 0)) refl
      where
        by : (es : List ℕ) → order_of (R 0) ≡ es → Stays 0 ⊎ (0 < length (order_of (R 0)))
        by [] none = inl (next 0 ∙ ap with_checks none ∙ append-nil targets ∙ sym start)
        by (e ∷ es) some = inr (omega (arith, ap length some))
    adds (suc n) = elim (adds n) [
      | inl h ↦ inl (stays-next n h)
      | inr lt ↦ let r = front-order (R n) (R (suc n)) (front-more n) in by r.0 r.1 lt
    ]
      where
        by : (more : List ℕ) → order_of (R (suc n)) ≡ order_of (R n) ++ more → n < length (order_of (R n))
            → Stays (suc n) ⊎ (suc n < length (order_of (R (suc n))))
        by [] none lt = inl (next (suc n) ∙ ap with_checks (none ∙ append-nil (order_of (R n)))
            ∙ sym (next n))
        by (e ∷ es) some lt = inr (omega (arith, lt, ap length some, length-append (order_of (R n)) (e ∷ es)))

    module _ (short : (n : ℕ) → length (order_of (R n)) ≤ count) where
      stays-count : Stays count
      stays-count = elim (adds count) [ inl h ↦ h | inr lt ↦ absurd (omega (arith, lt, short count)) ]

      stays-from : (n : ℕ) → count ≤ n → Stays n
      stays-from zero le = let is : count ≡ 0 = omega (arith, le) in subst Stays is stays-count
      stays-from (suc n) le = elim (cases_lt n count) [
        | inl lt ↦ let is : count ≡ suc n = omega (arith, lt, le) in subst Stays is stays-count
        | inr further ↦ stays-next n (stays-from n further)
      ]

      same-count : (n : ℕ) → count ≤ n → R n ≡ R count
      same-count zero le = let is : 0 ≡ count = omega (arith, le) in ap R is
      same-count (suc n) le = elim (cases_lt n count) [
        | inl lt ↦ let is : suc n ≡ count = omega (arith, lt, le) in ap R is
        | inr further ↦ stays-from n further ∙ same-count n further
      ]

      pub same-all : (n : ℕ) → count ≤ n → R n ≡ R (count + 1)
      same-all n le = same-count n le ∙ sym (same-count (count + 1) (omega arith))

      -- and a round leaves the last list unchanged
      pub all-fixed : R (count + 1) ≡ next_round (R (count + 1))
      all-fixed =
          let one : count + 1 ≡ suc count = omega arith in
          let last : R (count + 1) ≡ R (suc count) = ap R one in
          last ∙ stays-count ∙ sym stays-count ∙ next count ∙ ap next_round (sym (last ∙ stays-count))
