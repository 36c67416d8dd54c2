-- The needed commands are the commands of the reached edges, without duplicates, each after the commands that
-- it needs.
use Rattle.std.proofs.Common.{◌≡◌, ℕ, zero, suc, ◌<◌, Bool, true, false, not, cond, Option, Some, None, List}
use Rattle.std.proofs.Common.{[], ◌∷◌, ◌++◌, length, get_or, take, filter, refl, sym, ap, subst, ◌∙◌, ◌⊎◌}
use Rattle.std.proofs.Common.{inl, inr, arith}
use Rattle.std.specs.Prelude.{nat_eq, slice_get}
use Rattle.std.specs.List.{flat_map, list_any, AllByRecursion, IsDistinct}
use Rattle.std.proofs.lemmas.Bool.{or_parts, not-true, not-false, eqb-true}
use Rattle.std.proofs.lemmas.List.{length-take, get_or-take}
use Rattle.nj_cycles.specs.Cycles.{NeedsByChain, IsRank}
use Rattle.nj_needs.specs.Needs.{Reached, AreWithin}
use Rattle.nj_cycles.specs.Cycles.Chain.{one as directly, more as through}
use Rattle.nj_needs.specs.Needs.Reached.{target, needed}
use Rattle.nj_needs.specs.Order.{made_by, unfolded, unfolded_row, order, needed_commands}
use Rattle.nj_edges.specs.Repeats.{each_once}
use Rattle.nj_needs.specs.Laws.{CommandsAreTheReached, CommandsComeOnce, CommandsComeAfterNeeds}
use Rattle.nj_needs.proofs.Members.{In, In-from_Contains, Contains-from_In, In-head, In-tail, In-append_left}
use Rattle.nj_needs.proofs.Members.{In-append_right, In-append_cases, In-cons_cases, In-single, Among}
use Rattle.nj_needs.proofs.Members.{Among-from_Contains, Contains-from_Among}
use Rattle.nj_needs.proofs.Striking.{Differ, Differ-first, Differ-filter, In-filter, In-filter_from, In-first}
use Rattle.nj_needs.proofs.Striking.{In-first_from}
use Rattle.nj_needs.proofs.Unfolding.{In-row, In-row_from, In-unfolded, falls, within, unfolded-row}
use Rattle.nj_needs.proofs.Unfolding.{closed_row}

-- ---- exactly the reached edges

module _ (makers : ℕ → List (Option ℕ)) (targets : List (Option ℕ)) where
  Reached-unfolded : (fuel e x : ℕ) → Reached makers targets e → In (unfolded makers fuel e) x
      → Reached makers targets x
  Reached-unfolded zero e x r i = subst (Reached makers targets) (sym (In-single e x i)) r
  Reached-unfolded (suc fuel) e x r i = elim
      (In-append_cases (flat_map (made_by (unfolded makers fuel)) (makers e)) (e ∷ []) x i) [
        | inl above ↦
            let m = In-row (unfolded makers fuel) (makers e) x above in
            Reached-unfolded fuel m.0 x (needed r (Contains-from_Among (makers e) m.0 m.1)) m.2
        | inr last ↦ subst (Reached makers targets) (sym (In-single e x last)) r
      ]

  pub Reached-from_row : (count x : ℕ) → In (unfolded_row makers count targets) x → Reached makers targets x
  Reached-from_row count x i =
      let m = In-row (unfolded makers count) targets x i in
      Reached-unfolded count m.0 x (target (Contains-from_Among targets m.0 m.1)) m.2

  module _ (count : ℕ) (rank : ℕ → ℕ) (ranked : IsRank makers count rank) (inside : AreWithin targets count)
    where
      reached_within : (e : ℕ) → Reached makers targets e → e < count
      reached_within e (target c) = inside e c
      reached_within f (needed {e = e} r needs) = ranked.within e f needs

      targets_in : (m : ℕ) → Among targets m → m < count
      targets_in m a = inside m (Contains-from_Among targets m a)

      pub row_has : (e : ℕ) → Reached makers targets e → In (unfolded_row makers count targets) e
      row_has e (target c) = In-row_from (unfolded makers count) targets e e (Among-from_Contains targets e c)
          (In-unfolded makers count e)
      row_has f (needed {e = e} r needs) =
          let own : In (unfolded_row makers count (makers e)) f =
          In-row_from (unfolded makers count) (makers e) f f (Among-from_Contains (makers e) f needs)
          (In-unfolded makers count f) in
          let deep : In (unfolded makers count e) f =
          subst (λ us. In us f) (sym (unfolded-row makers count rank ranked e (reached_within e r)))
          (In-append_left (unfolded_row makers count (makers e)) (e ∷ []) f own) in
          closed_row makers count rank ranked targets targets_in e f (row_has e r) deep

not-not : (b : Bool) → not b ≡ true → b ≡ false
not-not b h = not-true b h

pub commands-reached : CommandsAreTheReached
commands-reached makers count phony targets acyclic inside e =
    let np : ℕ → Bool = λ x. not (phony x) in
    let row = unfolded_row makers count targets in (
      (λ c.
          let i = In-filter np (each_once nat_eq row) e
          (In-from_Contains (filter np (each_once nat_eq row)) e c) in
          (Reached-from_row makers targets count e (In-first row e i.0), not-not (phony e) i.1)),
      (λ r. Contains-from_In (filter np (each_once nat_eq row)) e
          (In-filter_from np (each_once nat_eq row) e
          (In-first_from row e (row_has makers targets count acyclic.0 acyclic.1 inside e r.0))
          (ap not r.1))),
    )

-- ---- no duplicates

all_differ : (x : ℕ) (xs : List ℕ) → list_any (nat_eq x) xs ≡ false
    → AllByRecursion (λ y. nat_eq x y ≡ false) xs
all_differ x [] h = tt
all_differ x (y ∷ xs) h = let p = or_parts (nat_eq x y) (list_any (nat_eq x) xs) h in
    (p.0, all_differ x xs p.1)

pub IsDistinct-from : (xs : List ℕ) → Differ xs → IsDistinct nat_eq xs
unfolding IsDistinct
IsDistinct-from [] h = tt
IsDistinct-from (x ∷ xs) h = (all_differ x xs h.0, IsDistinct-from xs h.1)

pub commands-once : CommandsComeOnce
commands-once makers count phony targets =
    IsDistinct-from (needed_commands makers count phony targets)
    (Differ-filter (λ x. not (phony x)) (order makers count targets)
    (Differ-first (unfolded_row makers count targets)))

-- ---- each edge after the edges that it needs

-- the elements that each element wants were seen, or come before it
Ordered : (want : ℕ → ℕ → Type 0) → (seen : List ℕ) → List ℕ → Type 0
Ordered want seen [] = Unit {0}
Ordered want seen (e ∷ es) = ((f : ℕ) → want e f → In seen f) × Ordered want (e ∷ seen) es

wider : (e : ℕ) (seen more : List ℕ) → ((x : ℕ) → In seen x → In more x) → (x : ℕ) → In (e ∷ seen) x
    → In (e ∷ more) x
wider e seen more h x i = grind arith

module _ (want : ℕ → ℕ → Type 0) where
  Ordered-weaker : (es seen more : List ℕ) → ((x : ℕ) → In seen x → In more x) → Ordered want seen es
      → Ordered want more es
  unfolding Ordered
  Ordered-weaker [] seen more h o = tt
  Ordered-weaker (e ∷ es) seen more h o =
      ((λ f w. h f (o.0 f w)), Ordered-weaker es (e ∷ seen) (e ∷ more) (wider e seen more h) o.1)

  Ordered-append : (xs ys seen : List ℕ) → Ordered want seen xs → Ordered want (xs ++ seen) ys
      → Ordered want seen (xs ++ ys)
  unfolding Ordered
  Ordered-append [] ys seen o p = p
  Ordered-append (a ∷ xs) ys seen o p = (
    o.0,
    Ordered-append xs ys (a ∷ seen) o.1 (Ordered-weaker ys ((a ∷ xs) ++ seen) (xs ++ a ∷ seen)
        (λ x i. elim (In-cons_cases a (xs ++ seen) x i) [
          | inl is ↦ In-append_right xs (a ∷ seen) x (subst (In (a ∷ seen)) (sym is) (In-head a seen))
          | inr t ↦ elim (In-append_cases xs seen x t) [
            | inl s ↦ In-append_left xs (a ∷ seen) x s
            | inr s ↦
                In-append_right xs (a ∷ seen) x (In-tail a seen x s)
          ]
        ]) p),
  )

  -- a dropped element was seen, or is not wanted
  Ordered-filter : (p : ℕ → Bool) (es seen more : List ℕ) → ((x e : ℕ) → want e x → In seen x → In more x)
      → ((x : ℕ) → p x ≡ false → ((e : ℕ) → want e x → ⊥) ⊎ In more x) → Ordered want seen es
      → Ordered want more (filter p es)
  unfolding Ordered
  Ordered-filter p [] seen more keeps drops o = tt
  Ordered-filter p (e ∷ es) seen more keeps drops o = by_test (p e) refl
      (Ordered-filter p es (e ∷ seen) (e ∷ more)
      (λ x d w i. elim (In-cons_cases e seen x i) [
        | inl is ↦ subst (In (e ∷ more)) (sym is) (In-head e more)
        | inr t ↦
            In-tail e more x (keeps x d w t)
      ])
      (λ x is. elim (drops x is) [ inl never ↦ inl never | inr i ↦ inr (In-tail e more x i) ]) o.1)
      (λ is. Ordered-filter p es (e ∷ seen) more
      (λ x d w i. elim (In-cons_cases e seen x i) [
        | inl same ↦ elim (drops e is) [
          | inl never ↦ absurd (never d (subst (want d) same w))
          | inr j ↦
              subst (In more) (sym same) j
        ]
        | inr t ↦ keeps x d w t
      ]) drops o.1)
    where
      by_test : (b : Bool) → p e ≡ b → Ordered want (e ∷ more) (filter p es)
          → (p e ≡ false → Ordered want more (filter p es))
          → Ordered want more (cond b (e ∷ filter p es) (filter p es))
      by_test true is kept dropped = ((λ f w. keeps f e w (o.0 f w)), kept)
      by_test false is kept dropped = dropped is

  Ordered-first : (es seen : List ℕ) → Ordered want seen es → Ordered want seen (each_once nat_eq es)
  unfolding Ordered
  Ordered-first [] seen o = tt
  Ordered-first (e ∷ es) seen o = (
    o.0,
    Ordered-filter (λ x. not (nat_eq x e)) (each_once nat_eq es) (e ∷ seen) (e ∷ seen) (λ x d w i. i)
        (λ x is. inr (struck x e (e ∷ seen) (In-head e seen) is)) (Ordered-first es (e ∷ seen) o.1),
  )
    where
      struck : (x y : ℕ) (more : List ℕ) → In more y → not (nat_eq x y) ≡ false → In more x
      struck x y more i is = subst (In more) (sym (eqb-true x y (not-false (nat_eq x y) is))) i

  Ordered-at : (es seen : List ℕ) → Ordered want seen es → (j e f : ℕ) → j < length es → get_or es j e ≡ e
      → want e f → In seen f ⊎ In (take j es) f
  unfolding Ordered
  Ordered-at [] seen o j e f lt at w = absurd (omega (arith, lt))
  Ordered-at (x ∷ es) seen o zero e f lt at w = inl (o.0 f (subst (λ y. want y f) (sym at) w))
  Ordered-at (x ∷ es) seen o (suc j) e f lt at w =
      elim (Ordered-at es (x ∷ seen) o.1 j e f (omega (arith, lt)) at w) [
        | inl i ↦ elim (In-cons_cases x seen f i)
            [ inl is ↦ inr (subst (In (x ∷ take j es)) (sym is) (In-head x (take j es))) | inr t ↦ inl t ]
        | inr t ↦ inr (In-tail x (take j es) f t)
      ]

module _ (makers : ℕ → List (Option ℕ)) (count : ℕ) (rank : ℕ → ℕ) (ranked : IsRank makers count rank)
    (phony : ℕ → Bool) where
  abbrev Want : ℕ → ℕ → Type 0
  Want e f = NeedsByChain makers e f × (phony f ≡ false)

  -- an edge that another needs by a chain is unfolded before it
  chain_in : (e f : ℕ) → NeedsByChain makers e f → In (unfolded_row makers count (makers e)) f
  chain_in e f (directly needs) = In-row_from (unfolded makers count) (makers e) f f
      (Among-from_Contains (makers e) f needs) (In-unfolded makers count f)
  chain_in e f (through {g = g} needs chain) =
      let a = Among-from_Contains (makers e) g needs in
      let own : In (unfolded makers count g) f =
      subst (λ us. In us f) (sym (unfolded-row makers count rank ranked g
      (within makers count rank ranked e g a)))
      (In-append_left (unfolded_row makers count (makers g)) (g ∷ []) f (chain_in g f chain)) in
      In-row_from (unfolded makers count) (makers e) g f a own

  Ordered-row : (row : List (Option ℕ)) (seen : List ℕ)
      → ((m : ℕ) → Among row m → (s : List ℕ) → Ordered Want s (unfolded makers count m))
      → Ordered Want seen (unfolded_row makers count row)
  unfolding Ordered
  Ordered-row [] seen each = tt
  Ordered-row (None ∷ row) seen each = Ordered-row row seen (λ m a. each m (inr a))
  Ordered-row (Some m ∷ row) seen each =
      Ordered-append Want (unfolded makers count m) (unfolded_row makers count row) seen
      (each m (inl refl) seen) (Ordered-row row (unfolded makers count m ++ seen) (λ x a. each x (inr a)))

  Ordered-edge : (bound e : ℕ) → rank e < bound → e < count → (seen : List ℕ)
      → Ordered Want seen (unfolded makers count e)
  unfolding Ordered
  Ordered-edge zero e lt inside seen = absurd (omega (arith, lt))
  Ordered-edge (suc bound) e lt inside seen =
      let row = unfolded_row makers count (makers e) in
      let below = Ordered-row (makers e) seen
      (λ m a s. Ordered-edge bound m (omega (arith, lt, falls makers count rank ranked e m a))
      (within makers count rank ranked e m a) s) in
      let last : Ordered Want (row ++ seen) (e ∷ []) =
      ((λ f w. In-append_left row seen f (chain_in e f w.0)), tt) in
      subst (Ordered Want seen) (sym (unfolded-row makers count rank ranked e inside))
      (Ordered-append Want row (e ∷ []) seen below last)

slice_get_at : (es : List ℕ) (i f : ℕ) → i < length es → get_or es i f ≡ f → slice_get es i ≡ Some f
slice_get_at [] i f lt at = absurd (omega (arith, lt))
slice_get_at (x ∷ es) zero f lt at = ap Some at
slice_get_at (x ∷ es) (suc i) f lt at = slice_get_at es i f (omega (arith, lt)) at

-- a place before j
place_before : (es : List ℕ) (j f : ℕ) → j < length es → In (take j es) f
    → (i : ℕ) × (i < j) × (get_or es i f ≡ f)
place_before es j f lt i =
    let p = Contains-from_In (take j es) f i in
    let near : p.0 < j = omega (arith, p.1, length-take j es) in
    (p.0, near, sym (get_or-take j es p.0 f near) ∙ p.2)

pub commands-after_needs : CommandsComeAfterNeeds
commands-after_needs makers count phony targets acyclic inside e f has chain plain =
    let want = Want makers count acyclic.0 acyclic.1 phony in
    let es = needed_commands makers count phony targets in
    let row = Ordered-row makers count acyclic.0 acyclic.1 phony targets []
    (λ m a s. Ordered-edge makers count acyclic.0 acyclic.1 phony (suc (acyclic.0 m)) m (omega arith)
    (inside m (Contains-from_Among targets m a)) s) in
    let first = Ordered-first want (unfolded_row makers count targets) [] row in
    let ordered : Ordered want [] es =
    Ordered-filter want (λ x. not (phony x)) (order makers count targets) [] [] (λ x d w i. i)
    (λ x is. inl (λ d w. let p : phony x ≡ false = w.1 in let q : phony x ≡ true = not-false (phony x) is
    in cc)) first in
    let before : In (take has.0 es) f = elim
    (Ordered-at want es [] ordered has.0 e f has.1 has.2 (chain, plain))
    [ inl never ↦ absurd cc | inr t ↦ t ] in
    let q = place_before es has.0 f has.1 before in (
      q.0,
      has.0,
      q.1,
      slice_get_at es q.0 f (omega (arith, q.1, has.1)) q.2,
      slice_get_at es has.0 e has.1 has.2,
    )
