-- The paths that were read and not supplied.
use Rattle.std.proofs.Common.{◌≡◌, ◌<◌, ◌+◌, ℕ, Bool, true, false, cond, Option, Some, None, is_some, List}
use Rattle.std.proofs.Common.{[], ◌∷◌, ◌++◌, map, length, take, get_or, slice_get, unwrap_or, option_and_then}
use Rattle.std.proofs.Common.{position, bytes_eq, true≢false, refl, sym, ap, ◌∙◌}
use Rattle.std.specs.Global.{Vec}
use Rattle.std.specs.List.{AllByRecursion, cons_option, filter_map, flat_map}
use Rattle.std.proofs.lemmas.List.{append-nil, flat_map_more, map_push, take_more}
use Rattle.nj_scope.specs.Readings.{Reading}
use Rattle.nj_c.specs.declared.supplied_files.NumberedReading.{NumberedReading}
use Rattle.nj_c.specs.Inside.SuppliedHeld.{read_bytes, reading_held, wanted_of}
use Rattle.nj_c.proofs.SuppliedLemmas.{is-known}

abbrev pub bytes_of : Vec ℕ → List ℕ
bytes_of p = p.items

pub wanted-more : (old new : List (List ℕ)) (items : List NumberedReading) (i : ℕ) (d : NumberedReading)
    → i < length items
    → old ≡ flat_map wanted_of (take i items) → new ≡ old ++ wanted_of (get_or items i d)
    → new ≡ flat_map wanted_of (take (i + 1) items)
wanted-more old new items i d below is more =
    more ∙ ap (λ t. t ++ wanted_of (get_or items i d)) is
    ∙ flat_map_more wanted_of [] (take i items) (get_or items i d)
    ∙ ap (flat_map wanted_of) (sym (take_more items i d below))

-- one more path, of a reading that was not supplied
pub wanted-push : (old new : List (Vec ℕ)) (path : Vec ℕ) (r : NumberedReading) → is_some r.number ≡ false
    → path.items ≡ r.path.items
    → new ≡ old ++ path ∷ [] → map bytes_of new ≡ map bytes_of old ++ wanted_of r
wanted-push old new path r none same more =
    ap (map bytes_of) more ∙ map_push bytes_of old path ∙ ap (λ p. map bytes_of old ++ p ∷ []) same
    ∙ ap (λ b. map bytes_of old ++ cond b [] (r.path.items ∷ [])) (sym none)

-- no more paths, of a reading that was supplied
pub wanted-same : (old : List (List ℕ)) (r : NumberedReading) → is_some r.number ≡ true
    → old ≡ old ++ wanted_of r
wanted-same old r some = sym (append-nil old) ∙ ap (λ b. old ++ cond b [] (r.path.items ∷ [])) (sym some)

-- the wanted paths of the readings in memory are the wanted paths of the readings
wanted-one : (path : List ℕ) (others : List (List ℕ)) (b : Bool)
    → cond b [] (path ∷ []) ++ others ≡ cons_option (cond b None (Some path)) others
wanted-one path others true = refl
wanted-one path others false = refl

abbrev wanted : List (List ℕ) → List (Option (List ℕ)) → Reading → Option (List ℕ)
wanted paths files r = cond (is_some (option_and_then (slice_get files) (position (bytes_eq r.path) paths)))
    None (Some r.path)

pub wanted-held : (paths : List (List ℕ)) (files : List (Option (List ℕ))) (read : List NumberedReading)
    → length files ≡ length paths
    → AllByRecursion (λ r. r.number ≡ position (bytes_eq r.path.items) paths) read
    → flat_map wanted_of read ≡ filter_map (wanted paths files) (map (reading_held files) read)
wanted-held paths files [] same are = refl
wanted-held paths files (r ∷ rs) same are =
    let others = filter_map (wanted paths files) (map (reading_held files) rs) in
    ap (λ ws. wanted_of r ++ ws) (wanted-held paths files rs same are.1)
    ∙ ap (λ b. cond b [] (r.path.items ∷ []) ++ others)
    (ap is_some are.0 ∙ sym (is-known paths files r.path.items same))
    ∙ wanted-one r.path.items others (is_some
    (option_and_then (slice_get files) (position (bytes_eq r.path.items) paths)))

-- each reading in memory found the supplied file or an empty file
found-one : (files : List (Option (List ℕ))) (at : Option ℕ)
    → is_some (option_and_then (slice_get files) at) ≡ is_some at
    → read_bytes files at ≡ unwrap_or (option_and_then (slice_get files) at) (Some [])
found-one files None known = refl
found-one files (Some n) known = by_file (slice_get files n) known
  where
    by_file : (file : Option (Option (List ℕ))) → is_some file ≡ true
        → unwrap_or file None ≡ unwrap_or file (Some [])
    by_file None there = absurd (true≢false (sym there))
    by_file (Some f) there = refl

pub found-held : (paths : List (List ℕ)) (files : List (Option (List ℕ))) (read : List NumberedReading)
    → length files ≡ length paths
    → AllByRecursion (λ r. r.number ≡ position (bytes_eq r.path.items) paths) read
    → AllByRecursion (λ r. r.bytes ≡ unwrap_or
    (option_and_then (slice_get files) (position (bytes_eq r.path) paths)) (Some []))
    (map (reading_held files) read)
found-held paths files [] same are = tt
found-held paths files (r ∷ rs) same are = (
  ap (read_bytes files) are.0 ∙ found-one files (position (bytes_eq r.path.items) paths)
      (is-known paths files r.path.items same),
  found-held paths files rs same are.1,
)
