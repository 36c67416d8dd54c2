-- Lists of paths, and the makers of files.
use Rattle.std.proofs.Common.{◌≡◌, ℕ, zero, suc, ◌+◌, Bool, true, false, cond, Option, Some, None}
use Rattle.std.proofs.Common.{◌⊎◌, inl, inr, List, [], ◌∷◌, refl, sym, ap, ◌∙◌, subst, arith, true≢false}
use Rattle.std.specs.Prelude.{Contains, option_map, unwrap_or, is_some, ◌||◌, bytes_eq}
use Rattle.std.specs.List.{list_any}
use Rattle.std.proofs.lemmas.List.Folds.{list_any_at}
use Rattle.std.proofs.lemmas.Slice.Eq.{bytes_eq-Decides}
use Rattle.nj_names.specs.NameTables.{is_among}
use Rattle.nj_edges.specs.Edges.{EdgePaths, edge_at, outputs_of, maker_of, first_edge}
use Rattle.nj_stale.proofs.StateLemmas.{contains_head, contains_tail}

-- ---- lists of paths

pub two_ways : (b : Bool) → (b ≡ true) ⊎ (b ≡ false)
two_ways true = inl refl
two_ways false = inr refl

same_path : (one two : List ℕ) → bytes_eq one two ≡ true → one ≡ two
same_path one two e = (bytes_eq-Decides one two).0 e

pub some_of : (test : List ℕ → Bool) (paths : List (List ℕ)) → list_any test paths ≡ true
    → (path : List ℕ) × Contains paths path × (test path ≡ true)
some_of test [] none = absurd (true≢false (sym none))
some_of test (path ∷ paths) some = by (two_ways (test path)) (some_of test paths)
  where
    by : (test path ≡ true) ⊎ (test path ≡ false)
        → (list_any test paths ≡ true → (p : List ℕ) × Contains paths p × (test p ≡ true))
        → (p : List ℕ) × Contains (path ∷ paths) p × (test p ≡ true)
    by (inl here) later = (path, contains_head path paths, here)
    by (inr other) later =
        let found = later (sym (ap (λ b. b || list_any test paths) other) ∙ some) in
        (found.0, contains_tail path found.0 paths found.1, found.2)

pub any_of : (test : List ℕ → Bool) (paths : List (List ℕ)) (path : List ℕ) → Contains paths path
    → test path ≡ true → list_any test paths ≡ true
any_of test paths path c is = list_any_at test paths c.0 path c.1 (ap test c.2 ∙ is)

pub among : (paths : List (List ℕ)) (path : List ℕ) → Contains paths path → is_among paths path ≡ true
among paths path c = any_of (bytes_eq path) paths path c ((bytes_eq-Decides path path).1 refl)

pub contained : (paths : List (List ℕ)) (path : List ℕ) → is_among paths path ≡ true → Contains paths path
contained paths path is =
    let found = some_of (bytes_eq path) paths is in
    subst (λ (p : List ℕ). Contains paths p) (sym (same_path path found.0 found.2)) found.1

pub all_or_some : {A B : List ℕ → Type 0} (paths : List (List ℕ))
    → ((path : List ℕ) → Contains paths path → A path ⊎ B path)
    → ((path : List ℕ) → Contains paths path → A path) ⊎ ((path : List ℕ) × Contains paths path × B path)
all_or_some {A} {B} [] each = inl (λ path c. absurd (omega (arith, c.1)))
all_or_some {A} {B} (first ∷ paths) each =
    elim (each first (contains_head first paths)) [
      | inr b ↦ inr (first, contains_head first paths, b)
      | inl a ↦ elim (all_or_some {A = A} {B = B} paths
          (λ path c. each path (contains_tail first path paths c))) [
            | inr some ↦ inr (some.0, contains_tail first some.0 paths some.1, some.2)
            | inl all ↦ inl (λ path c. in_front first paths path a all c)
          ]
    ]
  where
    in_front : (first : List ℕ) (paths : List (List ℕ)) (path : List ℕ) → A first
        → ((p : List ℕ) → Contains paths p → A p) → Contains (first ∷ paths) path → A path
    in_front first paths path a all (zero, lt, is) = subst A is a
    in_front first paths path a all (suc k, lt, is) = all path (k, omega (arith, lt), is)

-- ---- makers

has_test : (test : EdgePaths → Bool) (edges : List EdgePaths) (edge : ℕ) → first_edge test edges ≡ Some edge
    → test (edge_at edges edge) ≡ true
has_test test [] edge none = absurd (cc)
has_test test (e ∷ edges) edge is = by (two_ways (test e)) (first_edge test edges) refl (has_test test edges)
  where
    by : (test e ≡ true) ⊎ (test e ≡ false) → (found : Option ℕ) → first_edge test edges ≡ found
        → ((n : ℕ) → first_edge test edges ≡ Some n → test (edge_at edges n) ≡ true)
        → test (edge_at (e ∷ edges) edge) ≡ true
    by (inl here) found found_is below =
        let zero_is : 0 ≡ edge =
        ap (λ (o : Option ℕ). unwrap_or o 0) (sym (ap (λ b. cond b (Some 0)
        (option_map (λ n. n + 1) (first_edge test edges))) here) ∙ is) in
        subst (λ n. test (edge_at (e ∷ edges) n) ≡ true) zero_is here
    by (inr other) None found_is below =
        let next : option_map (λ n. n + 1) (first_edge test edges) ≡ Some edge =
        sym (ap (λ b. cond b (Some 0) (option_map (λ n. n + 1) (first_edge test edges))) other) ∙ is in
        absurd (true≢false (sym (ap is_some (sym (ap (option_map (λ n. n + 1)) found_is) ∙ next))))
    by (inr other) (Some n) found_is below =
        let next : option_map (λ n. n + 1) (first_edge test edges) ≡ Some edge =
        sym (ap (λ b. cond b (Some 0) (option_map (λ n. n + 1) (first_edge test edges))) other) ∙ is in
        let plus : n + 1 ≡ edge =
        ap (λ (o : Option ℕ). unwrap_or o 0) (sym (ap (option_map (λ n. n + 1)) found_is) ∙ next) in
        let next_is : suc n ≡ edge = omega arith in
        subst (λ k. test (edge_at (e ∷ edges) k) ≡ true) next_is (below n found_is)

pub maker_has : (edges : List EdgePaths) (path : List ℕ) (edge : ℕ) → maker_of edges path ≡ Some edge
    → is_among (outputs_of (edge_at edges edge)) path ≡ true
maker_has edges path edge is = has_test _ edges edge is
