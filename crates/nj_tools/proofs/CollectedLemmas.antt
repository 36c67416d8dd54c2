-- Files that are collected, without duplicates, by their paths.
use Rattle.std.proofs.Common.{◌≡◌, ℕ, ◌<◌, ◌==◌, Bool, true, false, not, ◌||◌, cond, if◌then◌else◌, Some}
use Rattle.std.proofs.Common.{List, []}
use Rattle.std.proofs.Common.{◌∷◌, ◌++◌, length, bytes_eq, refl, sym, ap, subst, ◌∙◌, append_assoc}
use Rattle.std.proofs.Common.{append-nil, true≢false, slice_get, slice_set, slice_index_or, unwrap_or, ◌≢◌}
use Rattle.std.proofs.Common.{◌⊎◌, inl}
use Rattle.std.proofs.Common.{inr, arith, length-set}
use Rattle.std.proofs.lemmas.Bool.Decides.{eqb_tells}
use Rattle.std.proofs.lemmas.Grind.{get_or-set_at}
use Rattle.std.proofs.lemmas.Option.{slice_get_within}
use Rattle.std.proofs.lemmas.List.{get_or-set_other}
use Rattle.std.proofs.lemmas.List.Folds.{list_any-append}
use Rattle.std.specs.Prelude.{filter}
use Rattle.std.specs.List.{IsDistinct}
use Rattle.std.proofs.lemmas.Slice.Eq.{bytes_eq-Decides}
use Rattle.nj_names.specs.NameTables.{is_among, name_at, with_name}
use Rattle.nj_edges.proofs.EdgeLemmas.{same-number, get-path}
use Rattle.nj_graph.specs.Graph.{GraphModel, files_of}
use Rattle.nj_statements.proofs.OnceLemmas.{once-known, once-new}
use Rattle.nj_edges.specs.Repeats.{each_once}
use Rattle.nj_tools.specs.Inside.Collections.{HasExactly, new_paths, with_paths}

-- ---- lists without their repeats

-- removing an element keeps the elements that differ from it
among-others : (y x : List ℕ) (zs : List (List ℕ)) → bytes_eq y x ≡ false
    → is_among (filter (λ o. not (bytes_eq o x)) zs) y ≡ is_among zs y
among-others y x [] h = refl
among-others y x (z ∷ zs) h = by (bytes_eq z x) refl (among-others y x zs h)
  where
    others : List (List ℕ)
    others = filter (λ o. not (bytes_eq o x)) zs

    apart : (c : Bool) → bytes_eq y z ≡ c → bytes_eq z x ≡ true → c ≡ false
    apart false e k = refl
    apart true e k = absurd (true≢false (sym k ∙ sym (ap (λ w. bytes_eq w x) ((bytes_eq-Decides y z).0 e))
        ∙ h))

    by : (b : Bool) → bytes_eq z x ≡ b → is_among others y ≡ is_among zs y
        → is_among (cond (not b) (z ∷ others) others) y ≡ (bytes_eq y z || is_among zs y)
    by false k rest = ap (λ r. bytes_eq y z || r) rest
    by true k rest = rest ∙ sym (ap (λ c. c || is_among zs y) (apart (bytes_eq y z) refl k))

-- the same are in the list without its repeats
pub among-once : (xs : List (List ℕ)) (y : List ℕ) → is_among (each_once bytes_eq xs) y ≡ is_among xs y
among-once [] y = refl
among-once (x ∷ xs) y = by (bytes_eq y x) refl (among-once xs y)
  where
    by : (b : Bool) → bytes_eq y x ≡ b → is_among (each_once bytes_eq xs) y ≡ is_among xs y
        → (b || is_among (filter (λ o. not (bytes_eq o x)) (each_once bytes_eq xs)) y) ≡ (b || is_among xs y)
    by true k rest = refl
    by false k rest = among-others y x (each_once bytes_eq xs) k ∙ rest

-- ---- paths one after another

once-more : (xs : List (List ℕ)) (x : List ℕ)
    → each_once bytes_eq (xs ++ x ∷ []) ≡ with_name (each_once bytes_eq xs) x
once-more xs x = by (is_among xs x) refl
  where
    by : (b : Bool) → is_among xs x ≡ b
        → each_once bytes_eq (xs ++ x ∷ []) ≡ with_name (each_once bytes_eq xs) x
    by true h = once-known xs x h
        ∙ ap (λ c. if c then each_once bytes_eq xs else each_once bytes_eq xs ++ x ∷ [])
        (sym (among-once xs x ∙ h))
    by false h = once-new xs x h
        ∙ ap (λ c. if c then each_once bytes_eq xs else each_once bytes_eq xs ++ x ∷ [])
        (sym (among-once xs x ∙ h))

with-once : (more xs : List (List ℕ))
    → with_paths (each_once bytes_eq xs) more ≡ each_once bytes_eq (xs ++ more)
with-once [] xs = ap (each_once bytes_eq) (sym (append-nil xs))
with-once (x ∷ more) xs =
    ap (λ ps. with_paths ps more) (sym (once-more xs x)) ∙ with-once more (xs ++ x ∷ [])
    ∙ ap (each_once bytes_eq) (append_assoc xs (x ∷ []) more)

-- paths that are added to an empty list
pub with-none : (more : List (List ℕ)) → with_paths [] more ≡ each_once bytes_eq more
with-none more = with-once more []

pub with-append : (paths xs ys : List (List ℕ))
    → with_paths paths (xs ++ ys) ≡ with_paths (with_paths paths xs) ys
with-append paths [] ys = refl
with-append paths (x ∷ xs) ys = with-append (with_name paths x) xs ys

-- the new paths of two lists, one after the other
pub new-append : (paths xs ys : List (List ℕ))
    → new_paths paths (xs ++ ys) ≡ new_paths paths xs ++ new_paths (with_paths paths xs) ys
new-append paths [] ys = refl
new-append paths (x ∷ xs) ys =
    let first : List (List ℕ) = if is_among paths x then [] else x ∷ [] in
    ap (λ ps. first ++ ps) (new-append (with_name paths x) xs ys)
    ∙ sym (append_assoc first (new_paths (with_name paths x) xs)
    (new_paths (with_paths (with_name paths x) xs) ys))

with-new : (paths more : List (List ℕ)) → with_paths paths more ≡ paths ++ new_paths paths more
with-new paths [] = sym (append-nil paths)
with-new paths (x ∷ more) =
    let first : List (List ℕ) = if is_among paths x then [] else x ∷ [] in
    with-new (with_name paths x) more
    ∙ ap (λ ps. ps ++ new_paths (with_name paths x) more) (by (is_among paths x))
    ∙ append_assoc paths first (new_paths (with_name paths x) more)
  where
    by : (b : Bool) → (if b then paths else paths ++ x ∷ []) ≡ paths ++ (if b then [] else x ∷ [])
    by true = sym (append-nil paths)
    by false = refl

-- all paths are new after an empty list
pub new-none : (more : List (List ℕ)) → new_paths [] more ≡ each_once bytes_eq more
new-none more = sym (with-new [] more) ∙ with-none more

-- ---- sets of files

or_more : (b : Bool) → (b || (true || false)) ≡ true
or_more true = refl
or_more false = refl

or_none : (b : Bool) → (b || (false || false)) ≡ b
or_none true = refl
or_none false = refl

-- the set with the file with the given number
pub more_flagged : (g h : GraphModel) (flags : List Bool) (paths : List (List ℕ)) (n : ℕ) (path : List ℕ)
    → IsDistinct bytes_eq (files_of g) → length flags ≡ length (files_of g) → h ≡ g
    → slice_get (files_of h) n ≡ Some path → HasExactly (record { graph = g; flags = flags }) paths
    → HasExactly (record { graph = g; flags = slice_set flags n true }) (paths ++ path ∷ [])
more_flagged g h flags paths n path distinct count is at_h so_far = record { flagged = flagged }
  where
    files : List (List ℕ)
    files = files_of g

    at : slice_get files n ≡ Some path
    at = subst (λ x. slice_get (files_of x) n ≡ Some path) is at_h

    below : n < length files
    below = slice_get_within files n path at

    flagged : (m : ℕ) → m < length (slice_set flags n true)
        → slice_index_or (slice_set flags n true) m false ≡ is_among (paths ++ path ∷ []) (name_at files m)
    flagged m within = by (eqb_tells m n) ∙ sym (list_any-append (bytes_eq name) paths (path ∷ []))
      where
        inside : m < length flags
        inside = omega (arith, within, length-set flags n true)

        name : List ℕ
        name = name_at files m

        same : (m == n) ≡ bytes_eq name path
        same =
            same-number files distinct m name (get-path files (record { 0 = m })
            (omega (arith, inside, count)))
            (record { 0 = n }) below
            ∙ ap (bytes_eq name) (ap (λ o. unwrap_or o []) at)

        by : ((m == n) ≡ true × (m ≡ n)) ⊎ ((m == n) ≡ false × (m ≢ n))
            → slice_index_or (slice_set flags n true) m false
            ≡ (is_among paths name || (bytes_eq name path || false))
        by (inl is) =
            get_or-set_at flags n m true false is.1 (omega (arith, inside, is.1))
            ∙ sym (or_more (is_among paths name))
            ∙ ap (λ b. is_among paths name || (b || false)) (sym is.0 ∙ same)
        by (inr apart) =
            get_or-set_other flags n m true false apart.1 ∙ so_far.flagged m inside
            ∙ sym (or_none (is_among paths name))
            ∙ ap (λ b. is_among paths name || (b || false)) (sym apart.0 ∙ same)
