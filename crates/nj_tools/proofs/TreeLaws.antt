-- How many levels a tree has.
use Rattle.std.proofs.Common.{◌≡◌, ℕ, zero, suc, ◌+◌, ◌-◌, ◌<◌, ◌≤◌, Option, Some, None, List, [], ◌∷◌, ◌++◌}
use Rattle.std.proofs.Common.{map, flat_map, length, refl, ap, ◌∙◌, arith}
use Rattle.std.specs.List.{AllByRecursion, Contains}
use Rattle.nj_scope.specs.ReadingList.{ReadStatement}
use Rattle.nj_edges.specs.Edges.{edge_at, inputs_of, maker_of}
use Rattle.nj_statements.specs.EdgeList.{edges_read, paths_of_edges}
use Rattle.nj_needs.proofs.Bridges.{AreWithin-paths}
use Rattle.nj_tools.specs.Laws.{DepthZeroShowsAll}
use Rattle.nj_tools.specs.Listings.{file_line, indent, inputs_of_maker, tree_text}

-- a property of the makers in a row is a property of the maker of each file
each-made : {X : Type 0} (maker : X → Option ℕ) (P : ℕ → Type 0) (xs : List X)
    → ((e : ℕ) → Contains (map maker xs) (Some e) → P e)
    → AllByRecursion (λ x. (e : ℕ) → maker x ≡ Some e → P e) xs
each-made maker P [] all = tt
each-made maker P (x ∷ xs) all = (
  λ e is. all e (0, omega arith, is),
  each-made maker P xs (λ e c. all e (suc c.0, omega (arith, c.1), c.2)),
)

-- a function that is the same at each file is the same at a row
flat-same : {X : Type 0} (f g : X → List ℕ) (Q : X → Type 0) (xs : List X) → ((x : X) → Q x → f x ≡ g x)
    → AllByRecursion Q xs → flat_map f xs ≡ flat_map g xs
flat-same f g Q [] same all = refl
flat-same f g Q (x ∷ xs) same all = ap (λ t. t ++ flat_map f xs) (same x all.0)
    ∙ ap (λ t. g x ++ t) (flat-same f g Q xs same all.1)

-- a file whose maker has a rank below both numbers of levels
tree-enough : (entries : List ReadStatement) (rank : ℕ → ℕ)
    → ((e f : ℕ) → Contains (map (maker_of (paths_of_edges (edges_read entries)))
    (inputs_of (edge_at (paths_of_edges (edges_read entries)) e))) (Some f) → rank f < rank e)
    → (n m depth : ℕ) (path : List ℕ)
    → ((e : ℕ) → maker_of (paths_of_edges (edges_read entries)) path ≡ Some e → rank e < n)
    → ((e : ℕ) → maker_of (paths_of_edges (edges_read entries)) path ≡ Some e → rank e < m)
    → tree_text entries (suc n) depth path ≡ tree_text entries (suc m) depth path
unfolding tree_text
tree-enough entries rank falls zero m depth path low_n low_m =
    let edges = paths_of_edges (edges_read entries) in
    ap (λ t. indent depth ++ file_line entries (maker_of edges path) path ++ t)
    (made (maker_of edges path) refl)
  where
    made : (o : Option ℕ) → maker_of (paths_of_edges (edges_read entries)) path ≡ o
        → flat_map (tree_text entries zero (depth + 1))
        (inputs_of_maker (paths_of_edges (edges_read entries)) o)
        ≡ flat_map (tree_text entries m (depth + 1)) (inputs_of_maker (paths_of_edges (edges_read entries)) o)
    made None is = refl
    made (Some e) is = absurd (omega (arith, low_n e is))
tree-enough entries rank falls (suc n) zero depth path low_n low_m =
    let edges = paths_of_edges (edges_read entries) in
    ap (λ t. indent depth ++ file_line entries (maker_of edges path) path ++ t)
    (made (maker_of edges path) refl)
  where
    made : (o : Option ℕ) → maker_of (paths_of_edges (edges_read entries)) path ≡ o
        → flat_map (tree_text entries (suc n) (depth + 1))
        (inputs_of_maker (paths_of_edges (edges_read entries)) o)
        ≡ flat_map (tree_text entries zero (depth + 1))
        (inputs_of_maker (paths_of_edges (edges_read entries)) o)
    made None is = refl
    made (Some e) is = absurd (omega (arith, low_m e is))
tree-enough entries rank falls (suc n) (suc m) depth path low_n low_m =
    let edges = paths_of_edges (edges_read entries) in
    ap (λ t. indent depth ++ file_line entries (maker_of edges path) path ++ t)
    (made (tree-enough entries rank falls n m (depth + 1)) (maker_of edges path) refl)
  where
    made : ((p : List ℕ)
        → ((e : ℕ) → maker_of (paths_of_edges (edges_read entries)) p ≡ Some e → rank e < n)
        → ((e : ℕ) → maker_of (paths_of_edges (edges_read entries)) p ≡ Some e → rank e < m)
        → tree_text entries (suc n) (depth + 1) p ≡ tree_text entries (suc m) (depth + 1) p)
        → (o : Option ℕ) → maker_of (paths_of_edges (edges_read entries)) path ≡ o
        → flat_map (tree_text entries (suc n) (depth + 1))
        (inputs_of_maker (paths_of_edges (edges_read entries)) o)
        ≡ flat_map (tree_text entries (suc m) (depth + 1))
        (inputs_of_maker (paths_of_edges (edges_read entries)) o)
    made deeper None is = refl
    made deeper (Some e) is =
        flat-same (tree_text entries (suc n) (depth + 1)) (tree_text entries (suc m) (depth + 1))
        (λ p. (f : ℕ) → maker_of (paths_of_edges (edges_read entries)) p ≡ Some f → rank f < rank e)
        (inputs_of (edge_at (paths_of_edges (edges_read entries)) e))
        (λ p low. deeper p (λ f made_by. omega (arith, low f made_by, low_n e is))
        (λ f made_by. omega (arith, low f made_by, low_m e is)))
        (each-made (maker_of (paths_of_edges (edges_read entries))) (λ f. rank f < rank e)
        (inputs_of (edge_at (paths_of_edges (edges_read entries)) e)) (falls e))

pub depth-zero_shows_all : DepthZeroShowsAll
depth-zero_shows_all entries acyclic levels depth path enough =
    let edges = paths_of_edges (edges_read entries) in
    let (rank, is) = acyclic in
    let above : length edges + 1 ≤ levels = enough in
    let many : levels ≡ suc (levels - 1) = omega (arith, above) in
    let all : suc (length edges) ≡ length edges + 1 = omega arith in
    let low : (e : ℕ) → maker_of edges path ≡ Some e → rank e < length edges =
    λ e made. is.bounded e (AreWithin-paths edges (path ∷ []) e (0, omega arith, made)) in
    ap (λ k. tree_text entries k depth path) many
    ∙ tree-enough entries rank is.falls (levels - 1) (length edges) depth path
    (λ e made. let below = low e made in omega (arith, below, above)) low
    ∙ ap (λ k. tree_text entries k depth path) all
