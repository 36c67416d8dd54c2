-- Files and edges of a graph, by their numbers.
use Rattle.std.proofs.Common.{◌≡◌, ◌∙◌, ℕ, ◌<◌, List, [], ◌∷◌, All, Some, length, map, drop, get_or}
use Rattle.std.proofs.Common.{slice_get, unwrap_or, refl, sym, ap, subst, arith}
use Rattle.std.specs.Prelude.{◌↔◌, Contains, bytes_eq, nat_eq}
use Rattle.std.specs.List.{IsDistinct, range_with_len}
use Rattle.std.proofs.lemmas.List.{ext_get_or}
use Rattle.std.proofs.lemmas.List.FromFn.{get_or-map-range_with_len, length-map-range_with_len}
use Rattle.std.proofs.lemmas.Option.{slice_get-get_or}
use Rattle.nj_names.specs.NameTables.{name_at}
use Rattle.nj_names.specs.Files.{path_at}
use Rattle.nj_names.specs.declared.files.FileNo.{FileNo}
use Rattle.nj_names.proofs.NameLemmas.{found-index}
use Rattle.nj_edges.specs.declared.edges.EdgeNo.{EdgeNo}
use Rattle.nj_graph.specs.Graph.{GraphModel, edges_of, files_of}
use Rattle.nj_edges.specs.EdgeGraphs.{EdgeGraph}
use Rattle.nj_edges.specs.Distances.{AreNearestFirst, IsNeeded}
use Rattle.nj_graph.specs.Handles.{ListsNeeded, edge_in, edges_in, file_in, files_in}
use Rattle.nj_graph.specs.Handles.{number_of}

-- the names of all numbers
pub all-named : (names : List (List ℕ)) → map (name_at names) (range_with_len 0 (length names)) ≡ names
all-named names =
    let all = map (name_at names) (range_with_len 0 (length names)) in
    let count = length-map-range_with_len (name_at names) 0 (length names) in
    ext_get_or [] all names count (λ i below.
    let within : i < length names = omega (arith, below, count) in
    get_or-map-range_with_len (name_at names) 0 (length names) i i [] within (omega arith)
    ∙ ap (λ name. unwrap_or name []) (slice_get-get_or names i [] within))

-- the number of a file is the place of its path
pub number-is : (graph : GraphModel) (n : ℕ) → IsDistinct bytes_eq (files_of graph)
    → n < length (files_of graph) → n ≡ number_of (file_in graph (name_at (files_of graph) n))
number-is graph n distinct below =
    let files = files_of graph in
    let there = slice_get-get_or files n [] below in
    let here : slice_get files n ≡ Some (name_at files n) =
    there ∙ ap Some (sym (ap (λ name. unwrap_or name []) there)) in
    ap (λ number. unwrap_or number 0) (found-index (name_at files n) files (Some n) distinct here)

-- ---- of which graph

module _ (g h : GraphModel) where
  -- the same files have the same paths
  same-paths : (paths others : List (List ℕ)) → files_in g paths ≡ files_in h others → paths ≡ others
  same-paths [] [] is = refl
  same-paths [] (other ∷ others) is = absurd cc
  same-paths (path ∷ paths) [] is = absurd cc
  same-paths (path ∷ paths) (other ∷ others) is =
      let first = ap (λ fs. (get_or fs 0 (file_in g path)).path) is in
      let rest : files_in g paths ≡ files_in h others = ap (drop 1) is in
      rw (first, same-paths paths others rest) refl

  -- the same edges have the same numbers
  same-numbers : (numbers others : List ℕ) → edges_in g numbers ≡ edges_in h others → numbers ≡ others
  same-numbers [] [] is = refl
  same-numbers [] (other ∷ others) is = absurd cc
  same-numbers (number ∷ numbers) [] is = absurd cc
  same-numbers (number ∷ numbers) (other ∷ others) is =
      let first = ap (λ es. (get_or es 0 (edge_in g number)).number) is in
      let rest : edges_in g numbers ≡ edges_in h others = ap (drop 1) is in
      rw (first, same-numbers numbers others rest) refl

  -- the files with the given numbers, read in the other graph
  pub paths-there : (numbers : List FileNo) (paths : List (List ℕ))
      → files_in g (map (path_at (files_of g)) numbers) ≡ files_in h paths
      → map (path_at (files_of h)) numbers ≡ paths
  paths-there [] paths is = same-paths [] paths is
  paths-there (n ∷ ns) [] is = absurd cc
  paths-there (n ∷ ns) (path ∷ paths) is =
      let same = ap (λ fs. (get_or fs 0 (file_in g [])).graph) is in
      subst (λ x. map (path_at (files_of x)) (n ∷ ns) ≡ path ∷ paths) same
      (same-paths (map (path_at (files_of g)) (n ∷ ns)) (path ∷ paths) is)

  pub files-there : (numbers : List FileNo) (paths : List (List ℕ))
      → files_in g (map (path_at (files_of g)) numbers) ≡ files_in h paths
      → All (λ file. file.0 < length (files_of g)) numbers
      → All (λ file. file.0 < length (files_of h)) numbers
  files-there [] paths is known = λ k d below. omega (arith, below)
  files-there (n ∷ ns) [] is known = absurd cc
  files-there (n ∷ ns) (path ∷ paths) is known =
      let same = ap (λ fs. (get_or fs 0 (file_in g [])).graph) is in
      subst (λ x. All (λ file. file.0 < length (files_of x)) (n ∷ ns)) same known

  -- the edges with the given numbers, read in the other graph
  pub numbers-there : (edges : List EdgeNo) (numbers : List ℕ)
      → edges_in g (map (λ edge. edge.0) edges) ≡ edges_in h numbers → map (λ edge. edge.0) edges ≡ numbers
  numbers-there edges numbers is = same-numbers (map (λ edge. edge.0) edges) numbers is

  pub edges-there : (edges : List EdgeNo) (numbers : List ℕ)
      → edges_in g (map (λ edge. edge.0) edges) ≡ edges_in h numbers
      → All (λ edge. edge.0 < length (edges_of g)) edges
      → All (λ edge. edge.0 < length (edges_of h)) edges
  edges-there [] numbers is known = λ k d below. omega (arith, below)
  edges-there (e ∷ es) [] is known = absurd cc
  edges-there (e ∷ es) (number ∷ numbers) is known =
      let same = ap (λ es. (get_or es 0 (edge_in g 0)).graph) is in
      subst (λ x. All (λ edge. edge.0 < length (edges_of x)) (e ∷ es)) same known

-- ---- needed edges

-- the edges that files need, in the graph of the given edges
pub needed-are : (g : GraphModel) (v : EdgeGraph) (files : List FileNo) (found : List EdgeNo)
    → v ≡ g.built.graph
    → ((edge : ℕ) → Contains (map (λ e. e.0) found) edge
    ↔ IsNeeded v.edges (map (path_at v.files) files) edge)
    → IsDistinct nat_eq (map (λ e. e.0) found)
    → AreNearestFirst v.edges (map (path_at v.files) files) (map (λ e. e.0) found)
    → ListsNeeded g (map (path_at (files_of g)) files) (edges_in g (map (λ e. e.0) found))
needed-are g v files found same needed once nearest = record {
  numbers = map (λ e. e.0) found;
  found_are = refl;
  needed = subst (λ (v : EdgeGraph). (edge : ℕ) → Contains (map (λ e. e.0) found) edge
      ↔ IsNeeded v.edges (map (path_at v.files) files) edge) same needed;
  each_once = once;
  nearest_first = subst (λ (v : EdgeGraph).
      AreNearestFirst v.edges (map (path_at v.files) files) (map (λ e. e.0) found)) same nearest;
}
