-- The numbers of the edges that pass a test.
use Rattle.std.proofs.lemmas.Grind.{common_steps}
use Rattle.std.proofs.Common.{◌≡◌, ◌<◌, ◌≤◌, ◌+◌, ◌⊎◌, inl, inr, ℕ, zero, suc, Bool, true, false, cond, List}
use Rattle.std.proofs.Common.{[], ◌∷◌, ◌++◌, length, take, get_or, refl, sym, ap, subst, ◌∙◌, true≢false}
use Rattle.std.proofs.Common.{arith}
use Rattle.std.specs.Prelude.{Contains}
use Rattle.std.specs.List.{AllByRecursion}
use Rattle.std.specs.List.Sorted.{IsStrictlySortedBy, IsStrictlyIncreasing}
use Rattle.std.specs.Ordering.{nat_cmp}
use Rattle.std.proofs.lemmas.List.{length-take-le, take_more}
use Rattle.std.proofs.lemmas.Map.Keys.{IsStrictlyIncreasing-from_sorted}
use Rattle.nj_edges.specs.Edges.{edges_from}
use Rattle.nj_edges.proofs.EdgeLemmas.{all-of}

contains-cases : (x : ℕ) (xs : List ℕ) (y : ℕ) → Contains (x ∷ xs) y → (x ≡ y) ⊎ Contains xs y
contains-cases x xs y (zero, below, is) = inl is
contains-cases x xs y (suc k, below, is) = inr (k, omega (arith, below), is)

contains-after : (x : ℕ) (xs : List ℕ) (y : ℕ) → Contains xs y → Contains (x ∷ xs) y
contains-after x xs y has = (suc has.0, omega (arith, has.1), has.2)

module _ {E : Type 0} (test : E → Bool) where
  -- ---- which edges pass

  module _ (d : E) (none : test d ≡ false) where
    -- the edge with the given number, counted from `k`, passes the test
    abbrev Passes : List E → (k e : ℕ) → Type 0
    Passes es k e = (i : ℕ) × (k + i ≡ e) × (test (get_or es i d) ≡ true)

    passes-after : (x : E) (es : List E) (k e : ℕ) → Passes es (k + 1) e → Passes (x ∷ es) k e
    passes-after x es k e (i, is, passes) = (suc i, omega (arith, is), passes)

    pub from-passes : (es : List E) (k e : ℕ) → Contains (edges_from k test es) e → Passes es k e
    from-passes [] k e has = absurd (omega (arith, has.1))
    from-passes (x ∷ es) k e has = by (test x) refl (from-passes es (k + 1) e) has
      where
        by : (b : Bool) → test x ≡ b → (Contains (edges_from (k + 1) test es) e → Passes es (k + 1) e)
            → Contains (cond b (k ∷ edges_from (k + 1) test es) (edges_from (k + 1) test es)) e
            → Passes (x ∷ es) k e
        by true is more has' = elim (contains-cases k (edges_from (k + 1) test es) e has') [
          | inl here ↦ (0, omega (arith, here), is)
          | inr there ↦ passes-after x es k e (more there)
        ]
        by false is more has' = passes-after x es k e (more has')

    pub passes-from : (es : List E) (k e : ℕ) → Passes es k e → Contains (edges_from k test es) e
    passes-from [] k e (i, is, passes) = absurd (true≢false (sym passes ∙ none))
    passes-from (x ∷ es) k e (zero, is, passes) =
        subst (λ b. Contains (cond b (k ∷ edges_from (k + 1) test es) (edges_from (k + 1) test es)) e)
        (sym passes) (0, omega arith, omega (arith, is))
    passes-from (x ∷ es) k e (suc i, is, passes) =
        by (test x) (passes-from es (k + 1) e (i, omega (arith, is), passes))
      where
        by : (b : Bool) → Contains (edges_from (k + 1) test es) e
            → Contains (cond b (k ∷ edges_from (k + 1) test es) (edges_from (k + 1) test es)) e
        by true has = contains-after k (edges_from (k + 1) test es) e has
        by false has = has

  -- ---- they rise

  from-above : (es : List E) (least k : ℕ) → least ≤ k
      → AllByRecursion (λ n. least ≤ n) (edges_from k test es)
  from-above [] least k le = tt
  from-above (x ∷ es) least k le = by (test x) (from-above es least (k + 1) (omega (arith, le)))
    where
      by : (b : Bool) → AllByRecursion (λ n. least ≤ n) (edges_from (k + 1) test es)
          → AllByRecursion (λ n. least ≤ n) (cond b (k ∷ edges_from (k + 1) test es)
          (edges_from (k + 1) test es))
      by true rest = (le, rest)
      by false rest = rest

  from-sorted : (es : List E) (k : ℕ) → IsStrictlySortedBy nat_cmp (edges_from k test es)
  unfolding IsStrictlySortedBy
  from-sorted [] k = tt
  from-sorted (x ∷ es) k = grind (arith, all-of, from-above, (from-sorted es (k + 1)))

  pub from-rises : (es : List E) (k : ℕ) → IsStrictlyIncreasing (edges_from k test es)
  from-rises es k = IsStrictlyIncreasing-from_sorted (edges_from k test es) (from-sorted es k)

  -- ---- one more edge

  from-push : (es : List E) (k : ℕ) (x : E)
      → edges_from k test (es ++ x ∷ []) ≡ edges_from k test es ++ cond (test x) ((k + length es) ∷ []) []
  from-push [] k x = let here : k ≡ k + 0 = omega arith in ap (λ n. cond (test x) (n ∷ []) []) here
  from-push (e ∷ es) k x =
      let there : (k + 1) + length es ≡ k + length (e ∷ es) = omega arith in
      by (test e) (from-push es (k + 1) x ∙ ap (λ n. edges_from (k + 1) test es ++ cond (test x) (n ∷ []) [])
      there)
    where
      last : List ℕ
      last = cond (test x) ((k + length (e ∷ es)) ∷ []) []

      by : (b : Bool) → edges_from (k + 1) test (es ++ x ∷ []) ≡ edges_from (k + 1) test es ++ last
          → cond b (k ∷ edges_from (k + 1) test (es ++ x ∷ [])) (edges_from (k + 1) test (es ++ x ∷ []))
          ≡ cond b (k ∷ edges_from (k + 1) test es) (edges_from (k + 1) test es) ++ last
      by true more = ap (λ ns. k ∷ ns) more
      by false more = more

  pub from-more : (es : List E) (i : ℕ) (d : E) (b : Bool) → i < length es → test (get_or es i d) ≡ b
      → edges_from 0 test (take (i + 1) es) ≡ edges_from 0 test (take i es) ++ cond b (i ∷ []) []
  from-more es i d b below is = grind (arith, common_steps, from-push, length-take-le, take_more)
