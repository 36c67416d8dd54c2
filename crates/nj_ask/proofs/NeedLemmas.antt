-- The edges that edges need, and the edges that need a changed file.
use Rattle.std.proofs.Common.{◌≡◌, ◌<◌, ◌+◌, ◌||◌, ◌⊎◌, inl, inr, ℕ, zero, suc, Bool, true, false, cond, List}
use Rattle.std.proofs.Common.{[], ◌∷◌, ◌++◌, map, length, get_or, Option, Some, None, is_some, option_map}
use Rattle.std.proofs.Common.{unwrap_or, bytes_eq, refl, sym, ap, subst, ◌∙◌, true≢false, arith}
use Rattle.std.specs.Prelude.{Contains}
use Rattle.std.specs.List.{flat_map}
use Rattle.std.proofs.lemmas.Cmp.{nat_list_eq_equiv}
use Rattle.std.proofs.lemmas.List.{get_or-map, length-map, map-append}
use Rattle.std.proofs.lemmas.List.Elements.{Contains-append_cases, Contains-append_left}
use Rattle.std.proofs.lemmas.List.Elements.{Contains-append_right}
use Rattle.std.proofs.lemmas.List.Folds.{list_any_at, list_any-from_Any}
use Rattle.std.proofs.lemmas.Map.Views.{Contains-from_any}
use Rattle.std.proofs.lemmas.Slice.Eq.{bytes_eq-Decides}
use Rattle.nj_cycles.specs.Cycles.{Needs, NeedsByChain}
use Rattle.nj_cycles.specs.Cycles.Chain.{one, more}
use Rattle.nj_graph.specs.Changes.{has_input_of, IsAffected, IsOrNeeds}
use Rattle.nj_graph.specs.Changes.IsAffected.{by_file, by_edge}
use Rattle.nj_graph.specs.Distances.{IsNeeded}
use Rattle.nj_graph.specs.Edges.{EdgePaths, edge_at, edges_from, first_edge, inputs_of, is_among, maker_of}
use Rattle.nj_graph.specs.Edges.{outputs_of, users_of}

-- ---- elements of joined lists

flat-at : {X A : Type 0} (f : X → List A) (xs : List X) (i : ℕ) (x : X) (a : A) → i < length xs
    → get_or xs i x ≡ x → Contains (f x) a → Contains (flat_map f xs) a
flat-at f [] i x a below is has = absurd (omega (arith, below))
flat-at f (y ∷ ys) zero x a below is has =
    Contains-append_left (f y) (flat_map f ys) a (subst (λ z. Contains (f z) a) (sym is) has)
flat-at f (y ∷ ys) (suc i) x a below is has =
    Contains-append_right (f y) (flat_map f ys) a (flat-at f ys i x a (omega (arith, below)) is has)

flat-from : {X A : Type 0} (f : X → List A) (xs : List X) (a : A) → Contains (flat_map f xs) a
    → (x : X) × Contains xs x × Contains (f x) a
flat-from f [] a has = absurd (omega (arith, has.1))
flat-from {X = X} f (y ∷ ys) a has = by (Contains-append_cases (f y) (flat_map f ys) a has) (flat-from f ys a)
  where
    by : Contains (f y) a ⊎ Contains (flat_map f ys) a
        → (Contains (flat_map f ys) a → (x : X) × Contains ys x × Contains (f x) a)
        → (x : X) × Contains (y ∷ ys) x × Contains (f x) a
    by (inl here) rest = (y, (0, omega arith, refl), here)
    by (inr there) rest =
        let r = rest there in
        let under = r.1.1 in
        (r.0, (suc r.1.0, omega (arith, under), r.1.2), r.2)

map-flat : {X A B : Type 0} (g : A → B) (f : X → List A) (xs : List X)
    → map g (flat_map f xs) ≡ flat_map (λ x. map g (f x)) xs
map-flat g f [] = refl
map-flat g f (x ∷ xs) = map-append g (f x) (flat_map f xs) ∙ ap (λ ys. map g (f x) ++ ys) (map-flat g f xs)

-- ---- makers

first-passes : {E : Type 0} (test : E → Bool) (d : E) (es : List E) (f : ℕ) → first_edge test es ≡ Some f
    → test (get_or es f d) ≡ true
first-passes test d [] f first = absurd (true≢false (sym (ap is_some first)))
first-passes test d (e ∷ es) f first = by (test e) refl first (first-passes test d es)
  where
    later : (o : Option ℕ) → first_edge test es ≡ o → option_map (λ n. n + 1) o ≡ Some f
        → ((g : ℕ) → first_edge test es ≡ Some g → test (get_or es g d) ≡ true)
        → test (get_or (e ∷ es) f d) ≡ true
    later None is h rest = absurd (true≢false (sym (ap is_some h)))
    later (Some g) is h rest =
        let after : g + 1 ≡ f = ap (λ o. unwrap_or o 0) h in
        let next : suc g ≡ f = omega (arith, after) in
        subst (λ n. test (get_or (e ∷ es) n d) ≡ true) next (rest g is)

    by : (b : Bool) → test e ≡ b → cond b (Some 0) (option_map (λ n. n + 1) (first_edge test es)) ≡ Some f
        → ((g : ℕ) → first_edge test es ≡ Some g → test (get_or es g d) ≡ true)
        → test (get_or (e ∷ es) f d) ≡ true
    by true is h rest = subst (λ n. test (get_or (e ∷ es) n d) ≡ true) (ap (λ o. unwrap_or o 0) h) is
    by false is h rest = later (first_edge test es) refl h rest

-- ---- the needs of edges

module _ (edges : List EdgePaths) where
  abbrev edge : ℕ → EdgePaths
  edge e = edge_at edges e

  abbrev makers_of : ℕ → List (Option ℕ)
  makers_of e = map (maker_of edges) (inputs_of (edge e))

  -- the maker of an input makes it
  needs-takes : (e f : ℕ) → Needs makers_of e f → has_input_of (outputs_of (edge f)) (edge e) ≡ true
  needs-takes e f needs =
      let inputs = inputs_of (edge e) in
      let below : needs.0 < length inputs = omega (arith, needs.1, length-map inputs (maker_of edges)) in
      let path = get_or inputs needs.0 [] in
      let made : maker_of edges path ≡ Some f =
      sym (get_or-map (maker_of edges) inputs needs.0 [] (Some f) below) ∙ needs.2 in
      let input : is_among inputs path ≡ true =
      list_any_at (bytes_eq path) inputs needs.0 [] below (nat_list_eq_equiv.refl path) in
      let output = first-passes (λ e. is_among (outputs_of e) path) (edge_at [] 0) edges f made in
      let has = Contains-from_any (λ x y is. (bytes_eq-Decides x y).0 is) path (outputs_of (edge f)) output in
      list_any-from_Any (is_among inputs) (outputs_of (edge f)) (has.0, path, has.1, has.2, input)

  chain-affected : (files : List (List ℕ)) (e f : ℕ) → NeedsByChain makers_of e f → IsAffected edges files f
      → IsAffected edges files e
  chain-affected files e f (one step) affected = by_edge (needs-takes e f step) affected
  chain-affected files e f (more {g = g} step chain) affected =
      by_edge (needs-takes e g step) (chain-affected files g f chain affected)

  -- an edge is affected by files if it, or an edge that it needs, has one of them as an input
  pub needs-affected : (files : List (List ℕ)) (e f : ℕ) → IsOrNeeds edges e f
      → has_input_of files (edge f) ≡ true → IsAffected edges files e
  needs-affected files e f (inl same) has = subst (IsAffected edges files) (sym same) (by_file has)
  needs-affected files e f (inr chain) has = chain-affected files e f chain (by_file has)

  -- ---- the edges that the inputs of edges need

  abbrev inputs_of_all : List ℕ → List (List ℕ)
  inputs_of_all makers = flat_map (λ e. inputs_of (edge e)) makers

  after-step : (e g f : ℕ) → Needs makers_of e g → IsOrNeeds edges g f → NeedsByChain makers_of e f
  after-step e g f step (inl same) = subst (NeedsByChain makers_of e) same (one step)
  after-step e g f step (inr chain) = more step chain

  first-step : (e f : ℕ) → NeedsByChain makers_of e f → (g : ℕ) × Needs makers_of e g × IsOrNeeds edges g f
  first-step e f (one step) = (f, step, inl refl)
  first-step e f (more {g = g} step chain) = (g, step, inr chain)

  -- one of the edges is it or needs it
  abbrev IsOfAny : (makers : List ℕ) → (edge : ℕ) → Type 0
  IsOfAny makers f = (e : ℕ) × Contains makers e × IsOrNeeds edges e f

  pub needed-any : (makers : List ℕ) (f : ℕ) → IsNeeded edges (inputs_of_all makers) f → IsOfAny makers f
  needed-any makers f needed =
      let from = flat-from makers_of makers (Some needed.0)
      (subst (λ os. Contains os (Some needed.0))
      (map-flat (maker_of edges) (λ e. inputs_of (edge e)) makers) needed.1) in
      (from.0, from.1, inr (after-step from.0 needed.0 f from.2 needed.2))

  pub any-needed : (makers : List ℕ) (f : ℕ) → IsOfAny makers f
      → Contains makers f ⊎ IsNeeded edges (inputs_of_all makers) f
  any-needed makers f (e, has, inl same) = inl (subst (Contains makers) same has)
  any-needed makers f (e, has, inr chain) =
      let first = first-step e f chain in
      inr (
        first.0,
        subst (λ os. Contains os (Some first.0))
            (sym (map-flat (maker_of edges) (λ e. inputs_of (edge e)) makers))
            (flat-at makers_of makers has.0 e (Some first.0) has.1 has.2 first.1),
        first.2,
      )

-- ---- the edges that have a file as an input

contains-cases : (x : ℕ) (xs : List ℕ) (y : ℕ) → Contains (x ∷ xs) y → (x ≡ y) ⊎ Contains xs y
contains-cases x xs y (zero, below, is) = inl is
contains-cases x xs y (suc k, below, is) = inr (k, omega (arith, below), is)

contains-after : (x : ℕ) (xs : List ℕ) (y : ℕ) → Contains xs y → Contains (x ∷ xs) y
contains-after x xs y has = (suc has.0, omega (arith, has.1), has.2)

module _ {E : Type 0} (test : E → Bool) (d : E) (none : test d ≡ false) where
  -- the edge with the given number, counted from `k`, passes the test
  abbrev Passes : List E → (k e : ℕ) → Type 0
  Passes es k e = (i : ℕ) × (k + i ≡ e) × (test (get_or es i d) ≡ true)

  passes-after : (x : E) (es : List E) (k e : ℕ) → Passes es (k + 1) e → Passes (x ∷ es) k e
  passes-after x es k e (i, is, passes) = (suc i, omega (arith, is), passes)

  from-passes : (es : List E) (k e : ℕ) → Contains (edges_from k test es) e → Passes es k e
  from-passes [] k e has = absurd (omega (arith, has.1))
  from-passes (x ∷ es) k e has = by (test x) refl (from-passes es (k + 1) e) has
    where
      by : (b : Bool) → test x ≡ b → (Contains (edges_from (k + 1) test es) e → Passes es (k + 1) e)
          → Contains (cond b (k ∷ edges_from (k + 1) test es) (edges_from (k + 1) test es)) e
          → Passes (x ∷ es) k e
      by true is rest has' = elim (contains-cases k (edges_from (k + 1) test es) e has') [
        | inl here ↦ (0, omega (arith, here), is)
        | inr there ↦ passes-after x es k e (rest there)
      ]
      by false is rest has' = passes-after x es k e (rest has')

  passes-from : (es : List E) (k e : ℕ) → Passes es k e → Contains (edges_from k test es) e
  passes-from [] k e (i, is, passes) = absurd (true≢false (sym passes ∙ none))
  passes-from (x ∷ es) k e (zero, is, passes) =
      subst (λ b. Contains (cond b (k ∷ edges_from (k + 1) test es) (edges_from (k + 1) test es)) e)
      (sym passes) (0, omega arith, omega (arith, is))
  passes-from (x ∷ es) k e (suc i, is, passes) =
      by (test x) (passes-from es (k + 1) e (i, omega (arith, is), passes))
    where
      by : (b : Bool) → Contains (edges_from (k + 1) test es) e
          → Contains (cond b (k ∷ edges_from (k + 1) test es) (edges_from (k + 1) test es)) e
      by true has = contains-after k (edges_from (k + 1) test es) e has
      by false has = has

module _ (edges : List EdgePaths) (path : List ℕ) where
  abbrev uses : EdgePaths → Bool
  uses e = is_among (inputs_of e) path

  or-none : (b : Bool) → (b || false) ≡ b
  or-none true = refl
  or-none false = refl

  pub user-input : (e : ℕ) → Contains (users_of edges path) e
      → has_input_of (path ∷ []) (edge_at edges e) ≡ true
  user-input e has =
      let passes = from-passes uses (edge_at [] 0) refl edges 0 e has in
      let same : passes.0 ≡ e = omega (arith, passes.1) in
      or-none (uses (edge_at edges e)) ∙ subst (λ n. uses (edge_at edges n) ≡ true) same passes.2

  pub input-user : (e : ℕ) → has_input_of (path ∷ []) (edge_at edges e) ≡ true
      → Contains (users_of edges path) e
  input-user e input = passes-from uses (edge_at [] 0) refl edges 0 e
      (e, omega arith, sym (or-none (uses (edge_at edges e))) ∙ input)
