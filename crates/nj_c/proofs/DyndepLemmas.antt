-- The dyndep files of edges, one edge after another.
use Rattle.std.proofs.Common.{◌≡◌, ℕ, ◌<◌, ◌+◌, Bool, true, false, cond, Option, Some, None, List, [], ◌∷◌}
use Rattle.std.proofs.Common.{◌++◌, map, length, take, get_or, slice_get, bytes_eq, refl, sym, ap, ◌∙◌}
use Rattle.std.proofs.Common.{append-nil, length-append}
use Rattle.std.specs.Global.{Vec}
use Rattle.std.specs.Prelude.{filter}
use Rattle.std.specs.List.{cons_option, filter_map}
use Rattle.std.proofs.lemmas.List.{length-map, map_push, take_more}
use Rattle.std.proofs.lemmas.Option.{get_or_from_slice_get}
use Rattle.std.proofs.lemmas.List.Elements.{filter-append, filter_map-append}
use Rattle.nj_manifest.specs.Statements.{StatementModel, BindingModel, RuleModel, PoolModel, BuildModel}
use Rattle.nj_manifest.specs.Statements.{DefaultModel, IncludeModel, SubninjaModel}
use Rattle.nj_scope.specs.ReadingList.{ReadStatement}
use Rattle.nj_edges.specs.Edges.{is_among}
use Rattle.nj_names.specs.NameTables.{with_name}
use Rattle.nj_edges.specs.Repeats.{each_once}
use Rattle.nj_statements.specs.EdgeList.{AssignedModel, EdgeModel, assigned_at, assigned_of, assigned_read}
use Rattle.nj_statements.specs.EdgeList.{edge_of_build, edges_read}
use Rattle.nj_statements.proofs.OnceLemmas.{once-known, once-new}
use Rattle.nj_tools.proofs.CollectedLemmas.{among-once}
use Rattle.nj_graph.specs.Graph.{GraphModel, IsGraphOf, edges_of}
use Rattle.nj_c.specs.SuppliedFiles.{Supplied}
use Rattle.nj_c.specs.Loading.{is_lacking}

-- ---- how many there are

counts-item : (e : ReadStatement) (before : List ReadStatement) (item : StatementModel)
    → length (assigned_read before) ≡ length (edges_read before)
    → length (assigned_read (record e { item = item } ∷ before))
    ≡ length (edges_read (record e { item = item } ∷ before))
unfolding assigned_read edges_read
counts-item e before (BuildModel outputs rule inputs lines) others =
    let own : EdgeModel = edge_of_build e before outputs rule inputs lines in
    length-append (assigned_read before) (assigned_of before own ∷ []) ∙ ap (λ n. n + 1) others
    ∙ sym (length-append (edges_read before) (own ∷ []))
counts-item e before (BindingModel bound word) others = others
counts-item e before (RuleModel name lines) others = others
counts-item e before (PoolModel name lines) others = others
counts-item e before (DefaultModel words) others = others
counts-item e before (IncludeModel word) others = others
counts-item e before (SubninjaModel word) others = others

counts : (entries : List ReadStatement) → length (assigned_read entries) ≡ length (edges_read entries)
unfolding assigned_read edges_read
counts [] = refl
counts (e ∷ before) = counts-item e before e.item (counts before)

pub one-for-each : (g : GraphModel) (entries : List ReadStatement) → IsGraphOf g entries
    → length g.built.assigned ≡ length (edges_of g)
one-for-each g entries is =
    ap length is.built.assigned ∙ counts entries
    ∙ sym (length-map (edges_read entries) (λ (e : EdgeModel). e.paths)) ∙ sym (ap length is.built.paths)

-- ---- the lacking files

with-once : (xs : List (List ℕ)) (x : List ℕ)
    → with_name (each_once bytes_eq xs) x ≡ each_once bytes_eq (xs ++ x ∷ [])
with-once xs x = by (is_among xs x) refl
  where
    by : (b : Bool) → is_among xs x ≡ b → with_name (each_once bytes_eq xs) x
        ≡ each_once bytes_eq (xs ++ x ∷ [])
    by true known = ap (λ b. cond b (each_once bytes_eq xs) (each_once bytes_eq xs ++ x ∷ []))
        (among-once xs x ∙ known) ∙ sym (once-known xs x known)
    by false new = ap (λ b. cond b (each_once bytes_eq xs) (each_once bytes_eq xs ++ x ∷ []))
        (among-once xs x ∙ new) ∙ sym (once-new xs x new)

module _ (h : Supplied) where
  abbrev pub lacking : List AssignedModel → List (List ℕ)
  lacking assigned = each_once bytes_eq (filter (is_lacking h) (filter_map (λ a. a.dyndep) assigned))

  -- with the file bound to one more edge
  more : (assigned : List AssignedModel) (a : AssignedModel) (bound : Option (List ℕ)) → a.dyndep ≡ bound
      → lacking (assigned ++ a ∷ []) ≡ each_once bytes_eq
      (filter (is_lacking h) (filter_map (λ a. a.dyndep) assigned)
      ++ filter (is_lacking h) (cons_option bound []))
  more assigned a bound is =
      ap (λ paths. each_once bytes_eq (filter (is_lacking h) paths))
      (filter_map-append (λ (a : AssignedModel). a.dyndep) assigned (a ∷ []))
      ∙ ap (each_once bytes_eq) (filter-append (is_lacking h) (filter_map (λ a. a.dyndep) assigned)
      (cons_option a.dyndep []))
      ∙ ap (λ b. each_once bytes_eq (filter (is_lacking h) (filter_map (λ a. a.dyndep) assigned)
      ++ filter (is_lacking h) (cons_option b []))) is

  pub one-path : (paths : List (List ℕ)) (path : List ℕ)
      → cond (is_lacking h path) (with_name (each_once bytes_eq paths) path) (each_once bytes_eq paths)
      ≡ each_once bytes_eq (paths ++ filter (is_lacking h) (path ∷ []))
  one-path paths path = by (is_lacking h path)
    where
      by : (b : Bool) → cond b (with_name (each_once bytes_eq paths) path) (each_once bytes_eq paths)
          ≡ each_once bytes_eq (paths ++ cond b (path ∷ []) [])
      by true = with-once paths path
      by false = ap (each_once bytes_eq) (sym (append-nil paths))

  module _ (assigned : List AssignedModel) (n : ℕ) (below : n < length assigned) where
    abbrev none : AssignedModel
    none = record { pool = None; dyndep = None }

    pub named-more : (old new : List (List ℕ)) (path : List ℕ) → (assigned_at assigned n).dyndep ≡ Some path
        → old ≡ lacking (take n assigned)
        → new ≡ cond (is_lacking h path) (with_name old path) old → new ≡ lacking (take (n + 1) assigned)
    named-more old new path is held named =
        named ∙ ap (λ paths. cond (is_lacking h path) (with_name paths path) paths) held
        ∙ one-path (filter (is_lacking h) (filter_map (λ a. a.dyndep) (take n assigned))) path
        ∙ sym (more (take n assigned) (get_or assigned n none) (Some path) is)
        ∙ ap lacking (sym (take_more assigned n none below))

    pub named-same : (old : List (List ℕ)) → (assigned_at assigned n).dyndep ≡ None
        → old ≡ lacking (take n assigned) → old ≡ lacking (take (n + 1) assigned)
    named-same old is held =
        held ∙ ap (each_once bytes_eq) (sym (append-nil
        (filter (is_lacking h) (filter_map (λ a. a.dyndep) (take n assigned)))))
        ∙ sym (more (take n assigned) (get_or assigned n none) None is)
        ∙ ap lacking (sym (take_more assigned n none below))

-- ---- the paths of a table, copied one after another

pub copied-more : (files : List (List ℕ)) (n : ℕ) (old new : List (Vec ℕ)) (path : Vec ℕ) (found : List ℕ)
    → n < length files → slice_get files n ≡ Some found
    → path.items ≡ found → map (λ p. p.items) old ≡ take n files → new ≡ old ++ path ∷ []
    → map (λ p. p.items) new ≡ take (n + 1) files
copied-more files n old new path found below at same held more =
    ap (map (λ (p : Vec ℕ). p.items)) more ∙ map_push (λ (p : Vec ℕ). p.items) old path
    ∙ ap (λ paths. paths ++ path.items ∷ []) held
    ∙ ap (λ p. take n files ++ p ∷ []) (same ∙ sym (get_or_from_slice_get files n found [] at))
    ∙ sym (take_more files n [] below)

pub none-is : {A : Type 0} (o : Option A) → ((x : A) → o ≡ Some x → ⊥) → o ≡ None
none-is None other = refl
none-is (Some x) other = absurd (other x refl)
