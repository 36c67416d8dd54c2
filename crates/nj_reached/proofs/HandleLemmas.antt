-- The paths of files and edges, as handles stand for them.
use Rattle.std.proofs.Common.{◌≡◌, ℕ, ◌||◌, Bool, true, false, cond, List, [], ◌∷◌, ◌++◌, map, length}
use Rattle.std.proofs.Common.{refl, sym, ap, subst, ◌∙◌}
use Rattle.std.specs.List.{filter, flat_map, list_any, range_with_len}
use Rattle.std.proofs.lemmas.List.{map-append}
use Rattle.std.proofs.lemmas.List.FromFn.{fill_by_all}
use Rattle.std.proofs.lemmas.List.Folds.{flat_map-map}
use Rattle.nj_changes.specs.FullPaths.{full_path}
use Rattle.nj_graph.specs.Edges.{EdgePaths, edge_at, outputs_of}
use Rattle.nj_graph.specs.Graph.{GraphModel, edges_of}
use Rattle.nj_graph.specs.Handles.{GraphEdge, GraphFile, edge_in, edges_in, file_in, files_in}
use Rattle.nj_graph.specs.ReadingList.{ReadStatement}
use Rattle.nj_reached.specs.GraphChanges.{full_paths, is_compiled, noticed_outputs, outputs_at}
use Rattle.nj_reached.specs.GraphChanges.{outputs_made}
use Rattle.nj_reached.specs.Inside.Handles.{AreIn, AreOf, full_compiled, full_noticed, full_outputs}
use Rattle.nj_reached.specs.Inside.Handles.{full_outputs_made, full_paths_in}
use Rattle.nj_reached.specs.Inside.Handles.{numbers_of, paths_in}

pub numbers-there : (g : GraphModel) (numbers : List ℕ) → numbers_of (edges_in g numbers) ≡ numbers
numbers-there g [] = refl
numbers-there g (n ∷ ns) = ap (λ ms. n ∷ ms) (numbers-there g ns)

paths-there : (g : GraphModel) (paths : List (List ℕ)) → paths_in (files_in g paths) ≡ paths
paths-there g [] = refl
paths-there g (p ∷ ps) = ap (λ qs. p ∷ qs) (paths-there g ps)

-- ---- edges of a graph

pub are-of : (g : GraphModel) (edges : List GraphEdge) (numbers : List ℕ) → edges ≡ edges_in g numbers
    → AreOf g edges
are-of g edges numbers is =
    is ∙ ap (edges_in g) (sym (ap numbers_of is ∙ numbers-there g numbers))

module _ (g : GraphModel) (edge : GraphEdge) (left others : List GraphEdge) (is : left ≡ edge ∷ others)
    (of : AreOf g left) where
  both : edge ∷ others ≡ edge_in g edge.number ∷ edges_in g (numbers_of others)
  both = subst (λ es. es ≡ edges_in g (numbers_of es)) is of

  pub first-of : edge.graph ≡ g
  first-of = let same = both in cc

  pub others-of : AreOf g others
  others-of = let same = both in cc

pub any-numbered : (p : ℕ → Bool) (g : GraphModel) (numbers : List ℕ)
    → list_any (λ (edge : GraphEdge). p edge.number) (edges_in g numbers) ≡ list_any p numbers
any-numbered p g [] = refl
any-numbered p g (n ∷ ns) = ap (λ b. p n || b) (any-numbered p g ns)

-- ---- files of a graph

pub are-in : (g : GraphModel) (files : List GraphFile) (paths : List (List ℕ)) → files ≡ files_in g paths
    → AreIn g files
are-in g files paths is = is ∙ ap (files_in g) (sym (ap paths_in is ∙ paths-there g paths))

module _ (g : GraphModel) (file : GraphFile) (left others : List GraphFile) (is : left ≡ file ∷ others)
    (of : AreIn g left) where
  both-in : file ∷ others ≡ file_in g file.path ∷ files_in g (paths_in others)
  both-in = subst (λ fs. fs ≡ files_in g (paths_in fs)) is of

  pub first-in : file.graph ≡ g
  first-in = let same = both-in in cc

  pub others-in : AreIn g others
  others-in = let same = both-in in cc

-- ---- full paths

module _ (folder : List ℕ) (g : GraphModel) where
  pub files-full : (paths : List (List ℕ)) → full_paths_in folder (files_in g paths) ≡ full_paths folder paths
  files-full [] = refl
  files-full (p ∷ ps) = ap (λ qs. full_path folder p ∷ qs) (files-full ps)

  module _ (f : EdgePaths → List (List ℕ)) where
    outputs-full : (numbers : List ℕ)
        → flat_map (λ (edge : GraphEdge). full_paths folder (f (edge_at (edges_of edge.graph) edge.number)))
        (edges_in g numbers)
        ≡ full_paths folder (flat_map (λ n. f (edge_at (edges_of g) n)) numbers)
    outputs-full [] = refl
    outputs-full (n ∷ ns) =
        ap (λ ps. full_paths folder (f (edge_at (edges_of g) n)) ++ ps) (outputs-full ns)
        ∙ sym (map-append (full_path folder) (f (edge_at (edges_of g) n))
        (flat_map (λ m. f (edge_at (edges_of g) m)) ns))

    all-edges : (edges : List EdgePaths) → edges ≡ map (edge_at edges) (range_with_len 0 (length edges))
    all-edges edges = fill_by_all (edge_at edges) edges (length edges) (edge_at [] 0) refl (λ k below. refl)

    all-full : flat_map (λ (edge : GraphEdge). full_paths folder
        (f (edge_at (edges_of edge.graph) edge.number)))
        (edges_in g (range_with_len 0 (length (edges_of g))))
        ≡ full_paths folder (flat_map f (edges_of g))
    all-full =
        let edges = edges_of g in
        outputs-full (range_with_len 0 (length edges))
        ∙ ap (full_paths folder) (sym (flat_map-map f (edge_at edges) (range_with_len 0 (length edges)))
        ∙ ap (flat_map f) (sym (all-edges edges)))

  pub outputs-numbered : (numbers : List ℕ)
      → full_outputs folder (edges_in g numbers) ≡ full_paths folder (outputs_at (edges_of g) numbers)
  outputs-numbered numbers = outputs-full outputs_of numbers

  pub all-outputs : full_outputs folder (edges_in g (range_with_len 0 (length (edges_of g))))
      ≡ full_paths folder (flat_map outputs_of (edges_of g))
  all-outputs = all-full outputs_of

  pub all-made : full_outputs_made folder (edges_in g (range_with_len 0 (length (edges_of g))))
      ≡ full_paths folder (flat_map outputs_made (edges_of g))
  all-made = all-full outputs_made

  module _ (entries : List ReadStatement) where
    pub noticed-numbered : (numbers : List ℕ)
        → full_noticed g entries folder (edges_in g numbers)
        ≡ full_paths folder (flat_map (noticed_outputs entries (edges_of g)) numbers)
    noticed-numbered [] = refl
    noticed-numbered (n ∷ ns) =
        let noticed = noticed_outputs entries (edges_of g) in
        ap (λ ps. full_paths folder (noticed n) ++ ps) (noticed-numbered ns)
        ∙ sym (map-append (full_path folder) (noticed n) (flat_map noticed ns))

    pub compiled-full : (paths : List (List ℕ))
        → full_compiled g entries folder (files_in g paths)
        ≡ full_paths folder (filter (is_compiled entries (edges_of g)) paths)
    compiled-full [] = refl
    compiled-full (p ∷ ps) = by (is_compiled entries (edges_of g) p) (compiled-full ps)
      where
        by : (b : Bool)
            → full_compiled g entries folder (files_in g ps)
            ≡ full_paths folder (filter (is_compiled entries (edges_of g)) ps)
            → full_paths_in folder (cond b (file_in g p ∷ filter (λ (file : GraphFile).
            is_compiled entries (edges_of g) file.path) (files_in g ps))
            (filter (λ (file : GraphFile). is_compiled entries (edges_of g) file.path) (files_in g ps)))
            ≡ full_paths folder (cond b (p ∷ filter (is_compiled entries (edges_of g)) ps)
            (filter (is_compiled entries (edges_of g)) ps))
        by true rest = ap (λ qs. full_path folder p ∷ qs) rest
        by false rest = rest
