-- Paths that repeat earlier paths.
use Rattle.std.proofs.Common.{◌≡◌, ◌+◌, ℕ, Bool, true, false, cond, Some, None, List, [], ◌∷◌, ◌++◌}
use Rattle.std.proofs.Common.{length, take, slice_get, refl, sym, ap, ◌∙◌, append_assoc, if◌then◌else◌}
use Rattle.std.specs.Prelude.{option_and_then}
use Rattle.std.specs.List.{cons_option, filter_map, range_with_len}
use Rattle.std.proofs.lemmas.List.{length_push}
use Rattle.std.proofs.Math.Seq.{take-append_seam}
use Rattle.nj_names.specs.NameTables.{with_name}
use Rattle.nj_graph.specs.Edges.{is_among}
use Rattle.nj_audit.specs.Audit.{repeated_path, repeated_paths}
use Rattle.nj_audit.proofs.NameLemmas.{AreNames, among-with, one-more}

-- the given paths that were seen or that repeat an earlier path
abbrev pub repeats_in : (seen paths : List (List ℕ)) → List (List ℕ)
repeats_in seen [] = []
repeats_in seen (path ∷ paths) =
    cond (is_among seen path) (path ∷ repeats_in (with_name seen path) paths)
    (repeats_in (with_name seen path) paths)

get-seam : {X : Type 0} (done : List X) (x : X) (left : List X)
    → slice_get (done ++ x ∷ left) (length done) ≡ Some x
get-seam [] x left = refl
get-seam (y ∷ done) x left = get-seam done x left

repeated-at : (done : List (List ℕ)) (path : List ℕ) (left : List (List ℕ)) (b : Bool)
    → is_among done path ≡ b
    → repeated_path (done ++ path ∷ left) (length done) ≡ cond b (Some path) None
repeated-at done path left b is =
    ap (option_and_then (λ other. if is_among (take (length done) (done ++ path ∷ left)) other then Some other
    else None)) (get-seam done path left)
    ∙ ap (λ ps. if is_among ps path then Some path else None) (take-append_seam done (path ∷ left))
    ∙ ap (λ b. cond b (Some path) None) is

repeats-are : (seen done left : List (List ℕ)) → AreNames seen done → repeats_in seen left
    ≡ filter_map (repeated_path (done ++ left)) (range_with_len (length done) (length left))
repeats-are seen done [] are = refl
repeats-are seen done (path ∷ left) are = by (is_among seen path) refl
    (repeats-are (with_name seen path) (done ++ path ∷ []) left
    (one-more seen (with_name seen path) done path (among-with seen path) are))
  where
    rest : List (List ℕ)
    rest = filter_map (repeated_path (done ++ path ∷ left)) (range_with_len (length done + 1) (length left))

    by : (b : Bool) → is_among seen path ≡ b → repeats_in (with_name seen path) left
        ≡ filter_map (repeated_path ((done ++ path ∷ []) ++ left))
        (range_with_len (length (done ++ path ∷ [])) (length left))
        → cond (is_among seen path) (path ∷ repeats_in (with_name seen path) left)
        (repeats_in (with_name seen path) left)
        ≡ filter_map (repeated_path (done ++ path ∷ left))
        (range_with_len (length done) (length (path ∷ left)))
    by b is more =
        let same = more ∙ ap (λ ps. filter_map (repeated_path ps) (range_with_len (length (done ++ path ∷ []))
        (length left))) (append_assoc done (path ∷ []) left)
        ∙ ap (λ n. filter_map (repeated_path (done ++ path ∷ left)) (range_with_len n (length left)))
        (length_push done path) in
        ap (λ ps. cond (is_among seen path) (path ∷ ps) ps) same
        ∙ ap (λ b. cond b (path ∷ rest) rest) is ∙ put b rest
        ∙ ap (λ o. cons_option o rest) (sym (repeated-at done path left b (sym (are path) ∙ is)))
      where
        put : (b : Bool) (ps : List (List ℕ))
            → cond b (path ∷ ps) ps ≡ cons_option (cond b (Some path) None) ps
        put true ps = refl
        put false ps = refl

-- at first no path was seen
pub all_repeats : (paths : List (List ℕ)) → repeats_in [] paths ≡ repeated_paths paths
all_repeats paths = repeats-are [] [] paths (λ name. refl)
