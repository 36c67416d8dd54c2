-- What counts in a directory, by edges and files one after another.
use Rattle.std.proofs.Common.{◌≡◌, ℕ, Bool, true, false, not, cond, ◌&&◌, ◌||◌, List, [], ◌∷◌, ◌++◌}
use Rattle.std.proofs.Common.{refl, sym, ap, ◌∙◌}
use Rattle.std.proofs.Math.Path.{fun_ext}
use Rattle.std.specs.List.{filter, list_any}
use Rattle.nj_text.specs.Calls.{is_empty}
use Rattle.nj_changes.specs.FullPaths.{full_path}
use Rattle.nj_graph.specs.Edges.{EdgePaths, edge_at, outputs_of, users_of}
use Rattle.nj_graph.specs.Graph.{GraphModel, edges_of}
use Rattle.nj_graph.specs.Handles.{GraphFile, edges_in, file_in, files_in}
use Rattle.nj_graph.specs.ReadingList.{ReadStatement}
use Rattle.nj_names.specs.NameTables.{is_among}
use Rattle.nj_changes.specs.Tables.{SameNames}
use Rattle.nj_reached.specs.GraphChanges.{full_paths, has_deps, is_compiled, is_object, noticed_outputs}
use Rattle.nj_chosen.specs.Reasons.{without}
use Rattle.nj_reached.specs.Inside.Handles.{full_compiled, full_paths_in, full_unused, is_unused}

filter-all : {X : Type 0} (p : X → Bool) → ((x : X) → p x ≡ true) → (xs : List X) → filter p xs ≡ xs
filter-all p all [] = refl
filter-all p all (x ∷ xs) =
    ap (λ b. cond b (x ∷ filter p xs) (filter p xs)) (all x) ∙ ap (λ ys. x ∷ ys) (filter-all p all xs)

not-not : (b : Bool) → not (not b) ≡ b
not-not true = refl
not-not false = refl

-- ---- the outputs of an edge

module _ (entries : List ReadStatement) (edges : List EdgePaths) (edge : ℕ) where
  keeps : List ℕ → Bool
  keeps output = not (is_object entries edges edge output)

  pub phony-none : (edge_at edges edge).is_phony ≡ true → noticed_outputs entries edges edge ≡ []
  phony-none is =
      ap (λ b. filter (λ output. not (is_object entries edges edge output))
      (cond b [] (outputs_of (edge_at edges edge)))) is

  made : (edge_at edges edge).is_phony ≡ false
      → noticed_outputs entries edges edge
      ≡ filter (λ output. not (is_object entries edges edge output)) (outputs_of (edge_at edges edge))
  made is =
      ap (λ b. filter (λ output. not (is_object entries edges edge output))
      (cond b [] (outputs_of (edge_at edges edge)))) is

  pub all-noticed : (edge_at edges edge).is_phony ≡ false → has_deps entries edge ≡ false
      → noticed_outputs entries edges edge ≡ outputs_of (edge_at edges edge)
  all-noticed is none =
      made is
      ∙ filter-all (λ output. not (is_object entries edges edge output))
      (λ output. ap (λ b. not (b && not (is_empty (users_of edges output)))) none)
      (outputs_of (edge_at edges edge))

  pub unused-noticed : (edge_at edges edge).is_phony ≡ false → has_deps entries edge ≡ true
      → noticed_outputs entries edges edge
      ≡ filter (λ output. is_empty (users_of edges output)) (outputs_of (edge_at edges edge))
  unused-noticed is some =
      made is
      ∙ ap (λ keep. filter keep (outputs_of (edge_at edges edge)))
      (fun_ext (λ output. ap (λ b. not (b && not (is_empty (users_of edges output)))) some
      ∙ not-not (is_empty (users_of edges output))))

-- ---- the files that no edge has as an input

module _ (folder : List ℕ) (g : GraphModel) where
  abbrev no_users : List ℕ → Bool
  no_users path = is_empty (users_of (edges_of g) path)

  pub unused-full : (paths : List (List ℕ))
      → full_unused folder (files_in g paths)
      ≡ full_paths folder (filter (λ path. is_empty (users_of (edges_of g) path)) paths)
  unused-full [] = refl
  unused-full (p ∷ ps) = by (no_users p) (unused-full ps)
    where
      by : (b : Bool) → full_unused folder (files_in g ps) ≡ full_paths folder (filter no_users ps)
          → full_paths_in folder (cond b (file_in g p ∷ filter is_unused (files_in g ps))
          (filter is_unused (files_in g ps)))
          ≡ full_paths folder (cond b (p ∷ filter no_users ps) (filter no_users ps))
      by true same = ap (λ qs. full_path folder p ∷ qs) same
      by false same = same

-- ---- one file

pub empty-edges : (g : GraphModel) (numbers : List ℕ) → is_empty (edges_in g numbers) ≡ is_empty numbers
empty-edges g [] = refl
empty-edges g (n ∷ ns) = refl

pub one-unused : (folder : List ℕ) (file : GraphFile) (is : Bool) → is_unused file ≡ is
    → full_unused folder (file ∷ []) ≡ cond is (full_path folder file.path ∷ []) []
one-unused folder file true unused = ap (λ b. full_paths_in folder (cond b (file ∷ []) [])) unused
one-unused folder file false unused = ap (λ b. full_paths_in folder (cond b (file ∷ []) [])) unused

pub one-compiled : (folder : List ℕ) (entries : List ReadStatement) (edges : List EdgePaths) (path : List ℕ)
    (is : Bool) → is_compiled entries edges path ≡ is
    → full_paths folder (filter (is_compiled entries edges) (path ∷ []))
    ≡ cond is (full_path folder path ∷ []) []
one-compiled folder entries edges path true compiled =
    ap (λ b. full_paths folder (cond b (path ∷ []) [])) compiled
one-compiled folder entries edges path false compiled =
    ap (λ b. full_paths folder (cond b (path ∷ []) [])) compiled

-- ---- the first file, and the others

module _ (folder : List ℕ) (file : GraphFile) (left others : List GraphFile) (is : left ≡ file ∷ others) where
  pub unused-first : full_unused folder left ≡ full_unused folder (file ∷ []) ++ full_unused folder others
  unused-first = ap (full_unused folder) is ∙ by (is_unused file)
    where
      by : (b : Bool) → full_paths_in folder
          (cond b (file ∷ filter is_unused others) (filter is_unused others))
          ≡ full_paths_in folder (cond b (file ∷ []) []) ++ full_paths_in folder (filter is_unused others)
      by true = refl
      by false = refl

  module _ (g : GraphModel) (entries : List ReadStatement) where
    abbrev is_one : GraphFile → Bool
    is_one one = is_compiled entries (edges_of g) one.path

    pub compiled-first : full_compiled g entries folder left
        ≡ full_paths folder (filter (is_compiled entries (edges_of g)) (file.path ∷ []))
        ++ full_compiled g entries folder others
    compiled-first = ap (full_compiled g entries folder) is ∙ by (is_compiled entries (edges_of g) file.path)
      where
        by : (b : Bool) → full_paths_in folder (cond b (file ∷ filter is_one others) (filter is_one others))
            ≡ full_paths folder (cond b (file.path ∷ []) []) ++ full_paths_in folder (filter is_one others)
        by true = refl
        by false = refl

-- ---- names that are not among others

pub without-same : (others same paths : List (List ℕ)) → SameNames others same
    → without others paths ≡ without same paths
without-same others same paths are =
    ap (λ keep. filter keep paths) (fun_ext (λ path. ap not (are path)))

pub without-one : (others : List (List ℕ)) (path : List ℕ) (is : Bool) → is_among others path ≡ is
    → without others (path ∷ []) ≡ cond is [] (path ∷ [])
without-one others path true among = ap (λ b. cond (not b) (path ∷ []) []) among
without-one others path false among = ap (λ b. cond (not b) (path ∷ []) []) among

-- ---- one of several, where the first is or is not

module _ {X : Type 0} (p : X → Bool) (left others : List X) (x : X) (is : left ≡ x ∷ others) where
  pub first-is : p x ≡ true → list_any p left ≡ true
  first-is some = ap (list_any p) is ∙ ap (λ b. b || list_any p others) some

  pub first-is-not : p x ≡ false → list_any p others ≡ list_any p left
  first-is-not none = sym (ap (list_any p) is ∙ ap (λ b. b || list_any p others) none)
