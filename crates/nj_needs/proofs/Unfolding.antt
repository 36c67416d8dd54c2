-- The unfolded order: its fuel does not matter, and which edges it has.
use Rattle.std.proofs.lemmas.Grind.{common_steps}
use Rattle.std.proofs.Common.{◌≡◌, ℕ, zero, suc, ◌+◌, ◌-◌, ◌<◌, ◌≤◌, Option, Some, None, List, [], ◌∷◌, ◌++◌}
use Rattle.std.proofs.Common.{refl, sym, ap, ◌∙◌, subst, inl, inr, arith, add-zero}
use Rattle.std.specs.List.{flat_map}
use Rattle.nj_cycles.specs.Cycles.{IsRank}
use Rattle.nj_needs.specs.Laws.{FuelIsEnough, EdgesComeAfterMakers}
use Rattle.nj_needs.specs.Order.{made_by, unfolded, unfolded_row}
use Rattle.nj_needs.proofs.Members.{In, In-append_left, In-append_right, In-append_cases, In-single}
use Rattle.nj_needs.proofs.Members.{Among, Contains-from_Among}

-- two functions that agree on the makers in a row
same_row : (f g : ℕ → List ℕ) (row : List (Option ℕ)) → ((m : ℕ) → Among row m → f m ≡ g m)
    → flat_map (made_by f) row ≡ flat_map (made_by g) row
same_row f g [] same = refl
same_row f g (None ∷ row) same = same_row f g row (λ m a. same m (inr a))
same_row f g (Some m ∷ row) same = rw (same m (inl refl), same_row f g row (λ x a. same x (inr a))) refl

no_makers : (f : ℕ → List ℕ) (row : List (Option ℕ)) → ((m : ℕ) → Among row m → ⊥)
    → flat_map (made_by f) row ≡ []
no_makers f [] none = refl
no_makers f (None ∷ row) none = no_makers f row (λ m a. none m (inr a))
no_makers f (Some m ∷ row) none = absurd (none m (inl refl))

-- the edges in a row's unfolding
pub In-row : (f : ℕ → List ℕ) (row : List (Option ℕ)) (x : ℕ) → In (flat_map (made_by f) row) x
    → (m : ℕ) × Among row m × In (f m) x
In-row f [] x i = absurd cc
In-row f (None ∷ row) x i = let r = In-row f row x i in (r.0, inr r.1, r.2)
In-row f (Some m ∷ row) x i = elim (In-append_cases (f m) (flat_map (made_by f) row) x i) [
  | inl here ↦ (m, inl refl, here)
  | inr there ↦ let r = In-row f row x there in (r.0, inr r.1, r.2)
]

pub In-row_from : (f : ℕ → List ℕ) (row : List (Option ℕ)) (m x : ℕ) → Among row m → In (f m) x
    → In (flat_map (made_by f) row) x
In-row_from f [] m x a i = absurd a
In-row_from f (None ∷ row) m x (inl is) i = absurd cc
In-row_from f (None ∷ row) m x (inr a) i = In-row_from f row m x a i
In-row_from f (Some y ∷ row) m x (inl is) i =
    let same : y ≡ m = cc in In-append_left (f y) (flat_map (made_by f) row) x
    (subst (λ z. In (f z) x) (sym same) i)
In-row_from f (Some y ∷ row) m x (inr a) i =
    In-append_right (f y) (flat_map (made_by f) row) x (In-row_from f row m x a i)

pub In-unfolded : (makers : ℕ → List (Option ℕ)) (fuel e : ℕ) → In (unfolded makers fuel e) e
In-unfolded makers fuel e = grind (arith, common_steps)

module _ (makers : ℕ → List (Option ℕ)) (count : ℕ) (rank : ℕ → ℕ) (ranked : IsRank makers count rank) where
  pub falls : (e m : ℕ) → Among (makers e) m → rank m < rank e
  falls e m a = ranked.falls e m (Contains-from_Among (makers e) m a)

  pub within : (e m : ℕ) → Among (makers e) m → m < count
  within e m a = ranked.within e m (Contains-from_Among (makers e) m a)

  -- more fuel changes nothing once there is as much as the edge's rank
  stable : (fuel e : ℕ) → rank e ≤ fuel → unfolded makers (suc fuel) e ≡ unfolded makers fuel e
  stable zero e h = ap (λ (us : List ℕ). us ++ e ∷ [])
      (no_makers (unfolded makers 0) (makers e) (λ m a. absurd (omega (arith, falls e m a, h))))
  stable (suc fuel) e h =
      ap (λ (us : List ℕ). us ++ e ∷ []) (same_row (unfolded makers (suc fuel)) (unfolded makers fuel)
      (makers e) (λ m a. stable fuel m (omega (arith, falls e m a, h))))

  -- an edge's unfolding is its row's and the edge
  pub unfolded-row : (e : ℕ) → e < count
      → unfolded makers count e ≡ unfolded_row makers count (makers e) ++ e ∷ []
  unfolded-row e lt = sym (stable count e (omega (arith, ranked.bounded e lt)))

  -- nor does any more
  enough : (more e : ℕ) → e < count → unfolded makers (count + more) e ≡ unfolded makers count e
  enough zero e lt = ap (λ n. unfolded makers n e) (add-zero count)
  enough (suc more) e lt =
      ap (λ n. unfolded makers n e) (let is : count + suc more ≡ suc (count + more) = omega arith in is)
      ∙ stable (count + more) e (omega (arith, ranked.bounded e lt)) ∙ enough more e lt

  pub enough-row : (fuel : ℕ) (row : List (Option ℕ)) → ((m : ℕ) → Among row m → m < count) → count ≤ fuel
      → unfolded_row makers fuel row ≡ unfolded_row makers count row
  enough-row fuel row inside le =
      let is : fuel ≡ count + (fuel - count) = omega arith in
      same_row (unfolded makers fuel) (unfolded makers count) row
      (λ m a. ap (λ n. unfolded makers n m) is ∙ enough (fuel - count) m (inside m a))

  -- an edge's unfolding has the unfolding of each edge in it
  closed_below : (bound e : ℕ) → rank e < bound → e < count → (x y : ℕ) → In (unfolded makers count e) x
      → In (unfolded makers count x) y → In (unfolded makers count e) y
  closed_below zero e h lt x y i j = absurd (omega (arith, h))
  closed_below (suc bound) e h lt x y i j =
      let U = unfolded makers count in
      let is = unfolded-row e lt in
      elim (In-append_cases (unfolded_row makers count (makers e)) (e ∷ []) x (subst (λ us. In us x) is i)) [
        | inl above ↦
            let r = In-row U (makers e) x above in
            let deep : In (U r.0) y = closed_below bound r.0 (omega (arith, h, falls e r.0 r.1))
            (within e r.0 r.1) x y r.2 j in
            subst (λ us. In us y) (sym is) (In-append_left (unfolded_row makers count (makers e)) (e ∷ []) y
            (In-row_from U (makers e) r.0 y r.1 deep))
        | inr last ↦ subst (λ z. In (U z) y) (In-single e x last) j
      ]

  pub closed_edge : (e : ℕ) → e < count → (x y : ℕ) → In (unfolded makers count e) x
      → In (unfolded makers count x) y → In (unfolded makers count e) y
  closed_edge e lt = closed_below (suc (rank e)) e (omega arith) lt

  pub closed_row : (row : List (Option ℕ)) → ((m : ℕ) → Among row m → m < count) → (x y : ℕ)
      → In (unfolded_row makers count row) x → In (unfolded makers count x) y
      → In (unfolded_row makers count row) y
  closed_row row inside x y i j =
      let r = In-row (unfolded makers count) row x i in
      In-row_from (unfolded makers count) row r.0 y r.1 (closed_edge r.0 (inside r.0 r.1) x y r.2 j)

-- ---- the laws

pub fuel-is_enough : FuelIsEnough
fuel-is_enough makers count fuel row acyclic inside le =
    enough-row makers count acyclic.0 acyclic.1 fuel row (λ m a. inside m (Contains-from_Among row m a)) le

pub edges-come_after_makers : EdgesComeAfterMakers
edges-come_after_makers makers count e acyclic lt = unfolded-row makers count acyclic.0 acyclic.1 e lt
