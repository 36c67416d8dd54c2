-- The paths that come one by one are those that are reached, each at its first occurrence.
use Rattle.std.proofs.Common.{◌≡◌, ℕ, Bool, true, false, not, cond, ◌||◌, ◌&&◌, Option, Some, None, Result}
use Rattle.std.proofs.Common.{List, [], ◌∷◌, ◌++◌, bytes_eq, refl, sym, ap, subst, ◌∙◌, append-nil}
use Rattle.std.proofs.Common.{append_assoc}
use Rattle.std.specs.Prelude.{filter}
use Rattle.std.specs.Option.{option_to_list}
use Rattle.std.proofs.Math.Path.{fun_ext}
use Rattle.std.proofs.lemmas.List.Folds.{list_any-append}
use Rattle.std.proofs.lemmas.Slice.Eq.{bytes_eq-Decides}
use Rattle.nj_scope.specs.Readings.{Reading, paths_of}
use Rattle.nj_scope.specs.Sources.{SourceState}
use Rattle.nj_scope.specs.ReadingList.{ReadStatement, path_named, gathered}
use Rattle.nj_scope.proofs.Gathering.{with_given}
use Rattle.nj_edges.specs.Edges.{is_among}
use Rattle.nj_edges.specs.Repeats.{each_once}
use Rattle.nj_faults.specs.declared.fault.GraphFault.{GraphFault}
use Rattle.nj_statements.specs.EdgeList.{Pending, pending_read}
use Rattle.nj_statements.specs.Joining.{dyndep_files}
use Rattle.nj_graph.specs.Reading.{ReadingModel, main_read, with_all_new, path_at_end, paths_come_to}
use Rattle.nj_graph.specs.Runs.{ReachedModel}
use Rattle.nj_graph.specs.Loads.{LoadedModel, LoadsAfter, Loads, main_reached}
use Rattle.nj_graph.specs.Joining.{files_joined, all_joined, some_joined_after, Joins}
use Rattle.nj_graph.specs.Inside.PathsReached.{with_new, with_news, paths_read, come_to, reached_of}
use Rattle.nj_graph.specs.Inside.PathsReached.{come_joined}
use Rattle.nj_graph.proofs.JoiningTables.{all_new-append}

-- ---- the paths that are not in the list yet

filter-twice : (f g h : List ℕ → Bool) → ((x : List ℕ) → (g x && f x) ≡ h x) → (xs : List (List ℕ))
    → filter f (filter g xs) ≡ filter h xs
filter-twice f g h same [] = refl
filter-twice f g h same (x ∷ xs) = by (g x) (same x) (filter-twice f g h same xs)
  where
    by : (b : Bool) → (b && f x) ≡ h x → filter f (filter g xs) ≡ filter h xs
        → filter f (cond b (x ∷ filter g xs) (filter g xs)) ≡ cond (h x) (x ∷ filter h xs) (filter h xs)
    by true is rest = ap (λ c. cond c (x ∷ filter f (filter g xs)) (filter f (filter g xs))) is
        ∙ ap (λ ys. cond (h x) (x ∷ ys) ys) rest
    by false is rest = rest ∙ ap (λ c. cond c (x ∷ filter h xs) (filter h xs)) is

module _ (before : List (List ℕ)) (path : List ℕ) where
  -- where the path is in the list already
  known-other : is_among before path ≡ true → (y : List ℕ)
      → (not (bytes_eq y path) && not (is_among before y)) ≡ not (is_among before y)
  known-other known y = by (bytes_eq y path) (bytes_eq-Decides y path).0
    where
      by : (b : Bool) → (b ≡ true → y ≡ path) → (not b && not (is_among before y)) ≡ not (is_among before y)
      by true is = ap not (sym (ap (is_among before) (is refl) ∙ known))
      by false is = refl

  -- where it is added
  added-other : (y : List ℕ) → (not (bytes_eq y path) && not (is_among before y))
      ≡ not (is_among (before ++ path ∷ []) y)
  added-other y = by (is_among before y) (bytes_eq y path)
      ∙ ap not (sym (list_any-append (bytes_eq y) before (path ∷ [])))
    where
      by : (a b : Bool) → (not b && not a) ≡ not (a || (b || false))
      by true true = refl
      by true false = refl
      by false true = refl
      by false false = refl

  new-step : (once : List (List ℕ)) → (b : Bool) → is_among before path ≡ b
      → cond b before (before ++ path ∷ [])
      ++ filter (λ y. not (is_among (cond b before (before ++ path ∷ [])) y)) once
      ≡ before ++ cond (not b) (path ∷ filter (λ y. not (is_among before y))
      (filter (λ y. not (bytes_eq y path)) once))
      (filter (λ y. not (is_among before y)) (filter (λ y. not (bytes_eq y path)) once))
  new-step once true is = ap (λ ys. before ++ ys)
      (sym (filter-twice (λ y. not (is_among before y)) (λ y. not (bytes_eq y path))
      (λ y. not (is_among before y)) (known-other is) once))
  new-step once false is =
      append_assoc before (path ∷ []) (filter (λ y. not (is_among (before ++ path ∷ []) y)) once)
      ∙ ap (λ ys. before ++ path ∷ ys) (sym
      (filter-twice (λ y. not (is_among before y)) (λ y. not (bytes_eq y path))
      (λ y. not (is_among (before ++ path ∷ []) y)) added-other once))

pub with_news-is : (before paths : List (List ℕ)) → with_news before paths ≡ with_all_new before paths
with_news-is before [] = sym (append-nil before)
with_news-is before (path ∷ paths) =
    with_news-is (with_new before path) paths
    ∙ new-step before path (each_once bytes_eq paths) (is_among before path) refl

-- ---- the paths of a reading

or-false : (b : Bool) → (b || false) ≡ b
or-false true = refl
or-false false = refl

once-after : (main : List ℕ) (paths : List (List ℕ))
    → with_news (main ∷ []) paths ≡ each_once bytes_eq (main ∷ paths)
once-after main paths =
    with_news-is (main ∷ []) paths ∙ ap (λ test. main ∷ filter test (each_once bytes_eq paths))
    (fun_ext (λ y. ap not (or-false (bytes_eq y main))))

given-news : (before named : List (List ℕ)) (given : Option (List ℕ))
    → with_news (with_news before named) (option_to_list given) ≡ with_news before (with_given named given)
given-news before named None = refl
given-news before named (Some path) = sym (all_new-append before named (path ∷ []))

paths_read-is : (main : List ℕ) (entries : List ReadStatement)
    → paths_read main entries ≡ with_news (main ∷ []) (gathered path_named entries)
paths_read-is main [] = refl
paths_read-is main (e ∷ before) =
    ap (λ paths. with_news paths (option_to_list (path_named e before e.item))) (paths_read-is main before)
    ∙ given-news (main ∷ []) (gathered path_named before) (path_named e before e.item)

come_to-is : (main : List ℕ) (r : ReadingModel) → come_to main r ≡ paths_come_to main r
come_to-is main r =
    ap (λ paths. with_news paths (path_at_end r.end)) (paths_read-is main r.entries)
    ∙ sym (all_new-append (main ∷ []) (gathered path_named r.entries) (path_at_end r.end))
    ∙ once-after main (gathered path_named r.entries ++ path_at_end r.end)

reached-is : (main : List ℕ) (files : List Reading) → reached_of main files ≡ main_reached main files
reached-is main files = ap (λ (paths : List (List ℕ)). record { read = main_read files main; paths = paths })
    (come_to-is main (main_read files main))

joined-is : (old : List Reading) (stated : List ReadStatement) (dyndeps : List Pending) (files : List Reading)
    → come_joined old stated dyndeps files ≡ some_joined_after old stated dyndeps files
joined-is old stated dyndeps files =
    ap (λ (paths : List (List ℕ)). record {
      read = (files_joined files stated dyndeps stated).read;
      paths =
          paths;
    })
    (with_news-is (paths_of old) (files_joined files stated dyndeps stated).paths)

-- ---- so statements that are read or joined are as stated

pub loads : (main : List ℕ) (before after : SourceState) (result : Result LoadedModel GraphFault)
    → LoadsAfter [] before after (reached_of main) result → Loads main before after result
loads main before after result h = subst
    (λ (reading : List Reading → ReachedModel). LoadsAfter [] before after reading result)
    (fun_ext (reached-is main)) h

pub joins : (stated : List ReadStatement) (old : List Reading) (dyndeps : List Pending)
    (before after : SourceState)
    (result : Result LoadedModel GraphFault)
    → LoadsAfter old before after (come_joined old stated dyndeps) result
    → LoadsAfter old before after (some_joined_after old stated dyndeps) result
joins stated old dyndeps before after result h =
    subst (λ (reading : List Reading → ReachedModel). LoadsAfter old before after reading result)
    (fun_ext (joined-is old stated dyndeps)) h

-- where all of them are joined
pub joins-all : (stated : List ReadStatement) (old : List Reading) (before after : SourceState)
    (result : Result LoadedModel GraphFault)
    → LoadsAfter old before after (some_joined_after old stated (dyndep_files (pending_read stated))) result
    → Joins stated old before after result
unfolding all_joined
joins-all stated old before after result h = h
