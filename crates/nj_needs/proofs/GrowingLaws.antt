-- The grown targets stay, and reach the edges that are followed.
use Rattle.std.proofs.Common.{arith, ◌≡◌, ℕ, zero, suc, ◌+◌, ◌<◌, ◌≤◌, Option, List, [], ◌∷◌, ◌++◌, length}
use Rattle.std.proofs.Common.{refl}
use Rattle.std.proofs.Common.{sym, subst, ◌⊎◌, inl, inr}
use Rattle.std.proofs.lemmas.List.{map-append}
use Rattle.std.proofs.lemmas.Map.Steps.{length-le_from_distinct_below}
use Rattle.nj_cycles.specs.Cycles.{IsAcyclic}
use Rattle.nj_edges.specs.Edges.{EdgePaths, edge_at, inputs_of, maker_of}
use Rattle.nj_edges.specs.Needs.{makers_of_inputs}
use Rattle.nj_needs.specs.Graphs.{row_of_paths}
use Rattle.nj_needs.specs.Growing.{validations_of, targets_after, grown_targets, RoundsAppend}
use Rattle.nj_needs.specs.Growing.{GrownTargetsStay, Makes, Followed, GrownTargetsReachTheFollowed}
use Rattle.nj_needs.specs.Growing.Followed.{target as aim, input, validation}
use Rattle.nj_needs.specs.Needs.{Reached}
use Rattle.nj_needs.specs.Needs.Reached.{target, needed}
use Rattle.nj_needs.specs.Order.{order, unfolded_row}
use Rattle.nj_needs.proofs.Bridges.{AreWithin-paths}
use Rattle.nj_needs.proofs.Fronts.{IsFront}
use Rattle.nj_needs.proofs.Members.{In, In-head, In-tail, In-cons_cases, Among, Among-from_Contains}
use Rattle.nj_needs.proofs.Members.{Contains-from_Among}
use Rattle.nj_needs.proofs.OrderLaws.{Reached-from_row, row_has, IsDistinct-from}
use Rattle.nj_needs.proofs.Rounds.{front-fixed, front-more, same-all, all-fixed}
use Rattle.nj_needs.proofs.Striking.{Differ-first, In-first, In-first_from}

Among-append_cases : (xs ys : List (Option ℕ)) (m : ℕ) → Among (xs ++ ys) m → Among xs m ⊎ Among ys m
Among-append_cases [] ys m a = inr a
Among-append_cases (x ∷ xs) ys m (inl is) = inl (inl is)
Among-append_cases (x ∷ xs) ys m (inr a) = grind (arith, Among-append_cases xs ys m a)

Among-append_left : (xs ys : List (Option ℕ)) (m : ℕ) → Among xs m → Among (xs ++ ys) m
Among-append_left [] ys m a = absurd a
Among-append_left (x ∷ xs) ys m (inl is) = inl is
Among-append_left (x ∷ xs) ys m (inr a) = inr (Among-append_left xs ys m a)

Among-append_right : (xs ys : List (Option ℕ)) (m : ℕ) → Among ys m → Among (xs ++ ys) m
Among-append_right [] ys m a = a
Among-append_right (x ∷ xs) ys m a = inr (Among-append_right xs ys m a)

module _ (edges : List EdgePaths) where
  abbrev maker : List ℕ → Option ℕ
  maker path = maker_of edges path

  abbrev checks : ℕ → List (List ℕ)
  checks e = (edge_at edges e).validations

  abbrev edges_of : List (List ℕ) → List ℕ
  edges_of paths = order (makers_of_inputs edges) (length edges) (row_of_paths edges paths)

  -- the edges of an order are edges
  order-below : (paths : List (List ℕ)) (e : ℕ) → In (edges_of paths) e
      → Reached (makers_of_inputs edges) (row_of_paths edges paths) e
  order-below paths e i =
      Reached-from_row (makers_of_inputs edges) (row_of_paths edges paths) (length edges) e
      (In-first (unfolded_row (makers_of_inputs edges) (length edges) (row_of_paths edges paths)) e i)

  reached-below : (paths : List (List ℕ)) (e : ℕ)
      → Reached (makers_of_inputs edges) (row_of_paths edges paths) e → e < length edges
  reached-below paths e (target c) = AreWithin-paths edges paths e c
  reached-below paths f (needed {e = e} r needs) = AreWithin-paths edges (inputs_of (edge_at edges e)) f needs

  order-short : (paths : List (List ℕ)) → length (edges_of paths) ≤ length edges
  order-short paths =
      length-le_from_distinct_below (edges_of paths) (length edges)
      (IsDistinct-from (edges_of paths) (Differ-first
      (unfolded_row (makers_of_inputs edges) (length edges) (row_of_paths edges paths))))
      (λ e i. reached-below paths e (order-below paths e i))

  module _ (targets : List (List ℕ)) where
    abbrev after : ℕ → List (List ℕ)
    after n = targets_after edges targets n

    next : (n : ℕ) → after (suc n) ≡ targets ++ validations_of edges (edges_of (after n))
    next n = refl

    pub grown-same : (n : ℕ) → length edges ≤ n → after n ≡ grown_targets edges targets
    grown-same n le = same-all (List ℕ) (makers_of_inputs edges) (length edges) maker checks targets after
        refl next (λ k. order-short (after k)) n le

    -- a further round leaves them unchanged
    pub grown-fixed : grown_targets edges targets
        ≡ targets ++ validations_of edges (edges_of (grown_targets edges targets))
    grown-fixed = all-fixed (List ℕ) (makers_of_inputs edges) (length edges) maker checks targets after refl
        next (λ k. order-short (after k))

    -- and they begin each list that a round leaves unchanged
    pub grown-least : (files : List (List ℕ)) → files ≡ targets ++ validations_of edges (edges_of files)
        → IsFront (grown_targets edges targets) files
    grown-least files fixed = front-fixed (List ℕ) (makers_of_inputs edges) (length edges) maker checks
        targets after refl next files fixed (length edges + 1)

    -- ---- only files that are followed are reached

    followed-reached : (paths : List (List ℕ)) → ((e : ℕ) → Makes edges paths e → Followed edges targets e)
        → (e : ℕ) → Reached (makers_of_inputs edges) (row_of_paths edges paths) e → Followed edges targets e
    followed-reached paths all e (target c) = all e c
    followed-reached paths all f (needed {e = e} r needs) = input (followed-reached paths all e r) needs

    followed-checks : (es : List ℕ) → ((e : ℕ) → In es e → Followed edges targets e) → (f : ℕ)
        → Among (row_of_paths edges (validations_of edges es)) f → Followed edges targets f
    followed-checks [] all f a = absurd a
    followed-checks (e ∷ es) all f a =
        let parts = subst (λ (row : List (Option ℕ)). Among row f)
        (map-append maker (checks e) (validations_of edges es)) a in
        elim (Among-append_cases (row_of_paths edges (checks e))
        (row_of_paths edges (validations_of edges es)) f parts) [
          | inl here ↦ validation (all e (In-head e es))
              (Contains-from_Among (row_of_paths edges (checks e)) f here)
          | inr later ↦ followed-checks es (λ x i. all x (In-tail e es x i)) f later
        ]

    followed-after : (n : ℕ) (e : ℕ) → Makes edges (after n) e → Followed edges targets e
    followed-after zero e c = aim c
    followed-after (suc n) e c =
        let es = edges_of (after n) in
        let parts = subst (λ (row : List (Option ℕ)). Among row e)
        (map-append maker targets (validations_of edges es))
        (Among-from_Contains (row_of_paths edges (after (suc n))) e c) in
        elim (Among-append_cases (row_of_paths edges targets) (row_of_paths edges (validations_of edges es)) e
        parts) [
          | inl here ↦ aim (Contains-from_Among (row_of_paths edges targets) e here)
          | inr later ↦ followed-checks es (λ x i. followed-reached (after n) (followed-after n) x
              (order-below (after n) x i)) e later
        ]

    -- ---- all that is followed is reached

    abbrev all : List (List ℕ)
    all = grown_targets edges targets

    made-target : (e : ℕ) → Makes edges targets e → Makes edges all e
    made-target e c =
        let a = Among-append_left (row_of_paths edges targets)
        (row_of_paths edges (validations_of edges (edges_of all))) e
        (Among-from_Contains (row_of_paths edges targets) e c) in
        let b = subst (λ (row : List (Option ℕ)). Among row e)
        (sym (map-append maker targets (validations_of edges (edges_of all)))) a in
        Contains-from_Among (row_of_paths edges all) e
        (subst (λ (paths : List (List ℕ)). Among (row_of_paths edges paths) e) (sym grown-fixed) b)

    made-checks : (es : List ℕ) (e f : ℕ) → In es e → Among (row_of_paths edges (checks e)) f
        → Among (row_of_paths edges (validations_of edges es)) f
    made-checks [] e f i a = absurd cc
    made-checks (x ∷ es) e f i a =
        subst (λ (row : List (Option ℕ)). Among row f)
        (sym (map-append maker (checks x) (validations_of edges es))) (elim (In-cons_cases x es e i) [
          | inl is ↦ Among-append_left (row_of_paths edges (checks x))
              (row_of_paths edges (validations_of edges es)) f
              (subst (λ y. Among (row_of_paths edges (checks y)) f) is a)
          | inr later ↦ Among-append_right (row_of_paths edges (checks x))
              (row_of_paths edges (validations_of edges es)) f (made-checks es e f later a)
        ])

    made-validation : (e f : ℕ) → In (edges_of all) e → Makes edges (checks e) f → Makes edges all f
    made-validation e f i c =
        let a = made-checks (edges_of all) e f i (Among-from_Contains (row_of_paths edges (checks e)) f c) in
        let b = Among-append_right (row_of_paths edges targets)
        (row_of_paths edges (validations_of edges (edges_of all))) f a in
        let d = subst (λ (row : List (Option ℕ)). Among row f)
        (sym (map-append maker targets (validations_of edges (edges_of all)))) b in
        Contains-from_Among (row_of_paths edges all) f
        (subst (λ (paths : List (List ℕ)). Among (row_of_paths edges paths) f) (sym grown-fixed) d)

    module _ (acyclic : IsAcyclic (makers_of_inputs edges) (length edges)) where
      reached-order : (e : ℕ) → Reached (makers_of_inputs edges) (row_of_paths edges all) e
          → In (edges_of all) e
      reached-order e r =
          In-first_from (unfolded_row (makers_of_inputs edges) (length edges) (row_of_paths edges all)) e
          (row_has (makers_of_inputs edges) (row_of_paths edges all) (length edges) acyclic.0 acyclic.1
          (AreWithin-paths edges all) e r)

      reached-followed : (e : ℕ) → Followed edges targets e
          → Reached (makers_of_inputs edges) (row_of_paths edges all) e
      reached-followed e (aim c) = target (made-target e c)
      reached-followed f (input {e = e} r c) = needed (reached-followed e r) c
      reached-followed f (validation {e = e} r c) =
          target (made-validation e f (reached-order e (reached-followed e r)) c)

pub rounds-append : RoundsAppend
rounds-append edges targets n = front-more (List ℕ) (makers_of_inputs edges) (length edges) (maker edges)
    (checks edges) targets (after edges targets) refl (next edges targets) n

pub grown-stay : GrownTargetsStay
grown-stay edges targets n le = grown-same edges targets n le

pub grown-reach : GrownTargetsReachTheFollowed
grown-reach edges targets acyclic e = (
  followed-reached edges targets (grown_targets edges targets)
      (followed-after edges targets (length edges + 1)) e,
  reached-followed edges targets acyclic e,
)
