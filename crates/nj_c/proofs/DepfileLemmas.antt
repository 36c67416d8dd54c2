-- The depfiles of edges, one edge after another.
use Rattle.std.proofs.Common.{◌≡◌, ℕ, ◌+◌, cond, Option, Some, None, List, [], ◌∷◌, ◌++◌, bytes_eq, sym, ap}
use Rattle.std.proofs.Common.{◌∙◌, append-nil, arith}
use Rattle.std.specs.Prelude.{filter}
use Rattle.std.specs.List.{cons_option, filter_map, range_with_len}
use Rattle.std.proofs.lemmas.List.{map-id}
use Rattle.std.proofs.lemmas.List.Elements.{filter-append, filter_map-append}
use Rattle.std.proofs.lemmas.List.FromFn.{map-range_with_len_more}
use Rattle.nj_names.specs.NameTables.{with_name}
use Rattle.nj_edges.specs.Repeats.{each_once}
use Rattle.nj_scope.specs.ReadingList.{ReadStatement}
use Rattle.nj_c.specs.DiscoveredInputs.{depfile_at, lacking_depfiles}
use Rattle.nj_c.specs.SuppliedFiles.{Supplied}
use Rattle.nj_c.specs.Loading.{is_lacking}
use Rattle.nj_c.proofs.DyndepLemmas.{one-path}

pub range-more : (n : ℕ) → range_with_len 0 (n + 1) ≡ range_with_len 0 n ++ n ∷ []
range-more n =
    let same : 0 + n ≡ n = omega arith in
    sym (map-id (range_with_len 0 (n + 1))) ∙ map-range_with_len_more (λ (x : ℕ). x) 0 n n same
    ∙ ap (λ xs. xs ++ n ∷ []) (map-id (range_with_len 0 n))

-- ---- depfiles

module _ (h : Supplied) (stated : List ReadStatement) where
  -- the depfiles of the first edges
  abbrev depfiles : ℕ → List (List ℕ)
  depfiles count = filter_map (depfile_at stated) (range_with_len 0 count)

  abbrev once : List (List ℕ) → List (List ℕ)
  once paths = each_once bytes_eq (filter (is_lacking h) paths)

  depfiles-more : (n : ℕ) (found : Option (List ℕ)) → depfile_at stated n ≡ found
      → depfiles (n + 1) ≡ depfiles n ++ cons_option found []
  depfiles-more n found is =
      ap (filter_map (depfile_at stated)) (range-more n)
      ∙ filter_map-append (depfile_at stated) (range_with_len 0 n) (n ∷ [])
      ∙ ap (λ o. depfiles n ++ cons_option o []) is

  with-path : (paths : List (List ℕ)) (path : List ℕ)
      → cond (is_lacking h path) (with_name (once paths) path) (once paths) ≡ once (paths ++ path ∷ [])
  with-path paths path = one-path h (filter (is_lacking h) paths) path
      ∙ ap (each_once bytes_eq) (sym (filter-append (is_lacking h) paths (path ∷ [])))

  module _ (n : ℕ) where
    pub named-more : (old new : List (List ℕ)) (path : List ℕ) → depfile_at stated n ≡ Some path
        → old ≡ lacking_depfiles h stated n
        → new ≡ cond (is_lacking h path) (with_name old path) old → new ≡ lacking_depfiles h stated (n + 1)
    named-more old new path is held named =
        named ∙ ap (λ paths. cond (is_lacking h path) (with_name paths path) paths) held
        ∙ with-path (depfiles n) path
        ∙ ap once (sym (depfiles-more n (Some path) is))

    pub named-same : (old : List (List ℕ)) → depfile_at stated n ≡ None → old ≡ lacking_depfiles h stated n
        → old ≡ lacking_depfiles h stated (n + 1)
    named-same old is held = held ∙ ap once (sym (append-nil (depfiles n)) ∙ sym (depfiles-more n None is))
