-- Files and edges of a graph, one after another.
use Rattle.std.proofs.Common.{◌≡◌, ◌+◌, ◌<◌, ℕ, Option, Some, None, List, [], ◌∷◌, map, length, get_or}
use Rattle.std.proofs.Common.{find, arith}
use Rattle.std.proofs.Common.{Bool, cond, rules, is_some, option_map, true, false, refl, sym}
use Rattle.std.proofs.Common.{ap, subst, ◌∙◌}
use Rattle.std.specs.List.{range_with_len}
use Rattle.std.proofs.lemmas.List.{get_or-map, length-map}
use Rattle.std.proofs.lemmas.List.FromFn.{length-map-range_with_len}
use Rattle.nj_graph.specs.Graph.{GraphModel, edges_of}
use Rattle.nj_graph.specs.Handles.{GraphEdge, GraphFile, edge_in, edge_of, edges_in, file_in, file_of}
use Rattle.nj_graph.specs.Handles.{files_in}
use Rattle.std.specs.Prelude.{IfSome}
use Rattle.nj_graph.specs.declared.handles.Edge.{Edge}
use Rattle.nj_graph.specs.declared.handles.File.{File}
use Rattle.nj_audit.specs.Audit.{edge_numbers, path_of}
use Rattle.nj_audit.specs.Inside.Handles.{AreIn, files_numbered}

-- the numbers of edges
abbrev pub numbers_of : List GraphEdge → List ℕ
numbers_of edges = map (λ edge. edge.number) edges

-- all edges are in the graph
abbrev pub AreOf : GraphModel → List GraphEdge → Type 0
AreOf g edges = edges ≡ edges_in g (numbers_of edges)

-- the paths of files
abbrev pub paths_in : List GraphFile → List (List ℕ)
paths_in files = map (λ file. file.path) files

pub numbers_there : (g : GraphModel) (numbers : List ℕ)
    → map (λ edge. edge.number) (edges_in g numbers) ≡ numbers
numbers_there g [] = refl
numbers_there g (n ∷ ns) = ap (λ ms. n ∷ ms) (numbers_there g ns)

pub paths_there : (g : GraphModel) (paths : List (List ℕ))
    → map (λ file. file.path) (files_in g paths) ≡ paths
paths_there g [] = refl
paths_there g (p ∷ ps) = ap (λ qs. p ∷ qs) (paths_there g ps)

-- ---- the first of the edges that are left, and the others

module _ (g : GraphModel) (edge : GraphEdge) (left others : List GraphEdge) (is : left ≡ edge ∷ others) where
  pub first-of : AreOf g left → edge.graph ≡ g
  first-of of =
      let both : edge ∷ others ≡ edge_in g edge.number ∷ edges_in g (numbers_of others) =
      subst (λ es. es ≡ edges_in g (numbers_of es)) is of in cc

  -- the edges from a number on
  pub next-from : (place : ℕ) → left ≡ edges_in g (range_with_len place (length left))
      → (edge ≡ edge_in g place) × (others ≡ edges_in g (range_with_len (place + 1) (length others)))
  next-from place of =
      let both : edge ∷ others
      ≡ edge_in g place ∷ edges_in g (range_with_len (place + 1) (length others)) =
      subst (λ es. es ≡ edges_in g (range_with_len place (length es))) is of in
      ((cc), (cc))

module _ (g : GraphModel) (file : GraphFile) (left others : List GraphFile) (is : left ≡ file ∷ others) where
  pub first-in : AreIn g left → file.graph ≡ g
  first-in of =
      let both : file ∷ others ≡ file_in g file.path ∷ files_in g (paths_in others) =
      subst (λ fs. fs ≡ files_in g (paths_in fs)) is of in cc

  pub others-in : AreIn g left → AreIn g others
  others-in of =
      let both : file ∷ others ≡ file_in g file.path ∷ files_in g (paths_in others) =
      subst (λ fs. fs ≡ files_in g (paths_in fs)) is of in cc

-- ---- all of them, at first

pub all-from : (g : GraphModel) (left : List GraphEdge) → left ≡ edges_in g (edge_numbers g)
    → (length left ≡ length (edges_of g)) × (left ≡ edges_in g (range_with_len 0 (length left)))
all-from g left is =
    let long = ap length is ∙ length-map-range_with_len (edge_in g) 0 (length (edges_of g)) in
    (long, is ∙ ap (λ n. edges_in g (range_with_len 0 n)) (sym long))

pub all-in : (g : GraphModel) (files : List GraphFile) (paths : List (List ℕ)) → files ≡ files_in g paths
    → (paths_in files ≡ paths) × AreIn g files
all-in g files paths is =
    let same = ap paths_in is ∙ paths_there g paths in
    (same, is ∙ ap (files_in g) (sym same))

pub numbered-in : (g : GraphModel) (numbers : List ℕ) → AreIn g (files_numbered g numbers)
numbered-in g [] = refl
numbered-in g (n ∷ ns) = ap (λ fs. file_in g (path_of g n) ∷ fs) (numbered-in g ns)

-- ---- the handle at an index

module _ (g : GraphModel) (files : List File) (i : ℕ) (file : File) (is : file ≡ get_or files i file)
    (below : i < length files) where
  item-is : get_or (map file_of files) i (file_of file) ≡ file_of file
  item-is = get_or-map file_of files i file (file_of file) below ∙ ap file_of (sym is)

  pub graph-at : AreIn g (map file_of files) → (file_of file).graph ≡ g
  graph-at are =
      let all = map file_of files in
      let under : i < length (paths_in all) =
      omega (arith, below, length-map all (λ f. f.path), length-map files file_of) in
      ap (λ (f : GraphFile). f.graph) (sym item-is ∙ ap (λ fs. get_or fs i (file_of file)) are
      ∙ get_or-map (file_in g) (paths_in all) i [] (file_of file) under)

  pub path-at : (numbers : List ℕ) → map file_of files ≡ files_numbered g numbers
      → (i < length numbers) × ((file_of file).path ≡ path_of g (get_or numbers i 0))
  path-at numbers are =
      let under : i < length numbers = omega (
        arith,
        below,
        length-map files file_of,
        ap length are,
        length-map numbers (λ n. file_in g (path_of g n)),
      ) in (
        under,
        ap (λ (f : GraphFile). f.path) (sym item-is ∙ ap (λ fs. get_or fs i (file_of file)) are
            ∙ get_or-map (λ n. file_in g (path_of g n)) numbers i 0 (file_of file) under),
      )

-- ---- options

pub made-by : (g : GraphModel) (o : Option ℕ) (edge : GraphEdge) → Some edge ≡ option_map (edge_in g) o
    → (edge.graph ≡ g) × (o ≡ Some edge.number)
made-by g None edge is = absurd cc
made-by g (Some n) edge is = ((cc), (cc))

pub made-by-none : (g : GraphModel) (o : Option ℕ) → None ≡ option_map (edge_in g) o → o ≡ None
made-by-none g None is = refl
made-by-none g (Some n) is = absurd cc

pub is-mapped : {X Y : Type 0} (f : X → Y) (o : Option X) → is_some (option_map f o) ≡ is_some o
is-mapped f None = refl
is-mapped f (Some x) = refl

pub number-made : (g : GraphModel) (made : Option Edge) (o : Option ℕ)
    → option_map edge_of made ≡ option_map (edge_in g) o → option_map (λ edge. (edge_of edge).number) made ≡ o
number-made g None o is = sym (made-by-none g o is)
number-made g (Some edge) o is = sym (made-by g o (edge_of edge) is).1

pub limit-made : (g : GraphModel) (made : Option Edge) (o : Option ℕ) (limit : ℕ)
    → option_map edge_of made ≡ option_map (edge_in g) o → limit ≡ length (edges_of g)
    → IfSome made (λ edge. limit ≡ length (edges_of (edge_of edge).graph))
limit-made g None o limit is same = search rules
limit-made g (Some edge) o limit is same =
    same ∙ ap (λ (h : GraphModel). length (edges_of h)) (sym (made-by g o (edge_of edge) is).0)

pub find-mapped : {X Y : Type 0} (h : X → Y) (p : Y → Bool) (xs : List X)
    → find p (map h xs) ≡ option_map h (find (λ x. p (h x)) xs)
find-mapped h p [] = refl
find-mapped h p (x ∷ xs) = by (p (h x)) (find-mapped h p xs)
  where
    by : (b : Bool) → find p (map h xs) ≡ option_map h (find (λ x. p (h x)) xs)
        → cond b (Some (h x)) (find p (map h xs)) ≡ option_map h (cond b (Some x) (find (λ x. p (h x)) xs))
    by true rest = refl
    by false rest = rest

-- ---- the paths of handles

paths-of : (files : List File) → map (λ file. (file_of file).path) files ≡ paths_in (map file_of files)
paths-of [] = refl
paths-of (f ∷ fs) = ap (λ ps. (file_of f).path ∷ ps) (paths-of fs)

numbered-paths : (g : GraphModel) (numbers : List ℕ)
    → paths_in (files_numbered g numbers) ≡ map (path_of g) numbers
numbered-paths g [] = refl
numbered-paths g (n ∷ ns) = ap (λ ps. path_of g n ∷ ps) (numbered-paths g ns)

pub paths-numbered : (g : GraphModel) (files : List File) (numbers : List ℕ)
    → map file_of files ≡ files_numbered g numbers
    → map (λ file. (file_of file).path) files ≡ map (path_of g) numbers
paths-numbered g files numbers are = paths-of files ∙ ap paths_in are ∙ numbered-paths g numbers
