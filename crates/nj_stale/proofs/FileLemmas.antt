-- Files by their numbers, and by their paths.
use Rattle.std.proofs.Common.{◌≡◌, ℕ, zero, suc, ◌<◌, ◌+◌, Bool, true, false, Option, Some, None, List, []}
use Rattle.std.proofs.Common.{◌∷◌, ◌++◌, length, take, refl, sym, ap, ap₂, ◌∙◌, arith, max, true≢false}
use Rattle.std.specs.Prelude.{unwrap_or, slice_get, slice_index, bytes_eq, if◌then◌else◌, ◌==◌}
use Rattle.std.specs.Option.{option_or}
use Rattle.std.specs.List.{IsDistinct, AllByRecursion}
use Rattle.std.proofs.lemmas.List.{length-map}
use Rattle.std.proofs.lemmas.Option.{slice_get_within}
use Rattle.std.proofs.lemmas.Slice.Eq.{bytes_eq-Decides}
use Rattle.nj_names.specs.Files.{AreFiles, path_at}
use Rattle.nj_names.specs.declared.files.FileNo.{FileNo}
use Rattle.nj_stale.specs.States.{newest, first_reason, first_with}
use Rattle.nj_stale.specs.Numbered.{time_of}
use Rattle.nj_stale.specs.declared.reason.Reason.{Reason}

-- the newest of a time that was found and of the remaining times
abbrev pub with_rest : Option ℕ → Option ℕ → Option ℕ
with_rest None rest = rest
with_rest (Some time) rest = Some (max time (unwrap_or rest 0))

-- ---- lists of files

-- the first files of a list have the first paths
pub front_files : (files : List (List ℕ)) (numbers : List FileNo) (front back : List (List ℕ))
    → AreFiles files numbers (front ++ back) → AreFiles files (take (length front) numbers) front
front_files files numbers [] back are = refl
front_files files [] (path ∷ front) back are = absurd (cc)
front_files files (number ∷ numbers) (path ∷ front) back are =
    ap₂ (λ (x : Option (List ℕ)) (xs : List (Option (List ℕ))). x ∷ xs)
    (let head : slice_get files number.0 ≡ Some path = cc in head)
    (front_files files numbers front back
    (let rest : AreFiles files numbers (front ++ back) = cc in rest))

pub length_files : (files : List (List ℕ)) (numbers : List FileNo) (paths : List (List ℕ))
    → AreFiles files numbers paths → length numbers ≡ length paths
length_files files numbers paths are =
    sym (length-map numbers (λ file. slice_get files file.0)) ∙ ap length are ∙ length-map paths Some

-- reasons asked of files by number are those asked of their paths
pub reasons_by_path : (files : List (List ℕ)) (asked : FileNo → ℕ → Option Reason)
    (by_path : List ℕ → ℕ → Option Reason)
    → ((file : FileNo) (place : ℕ) → file.0 < length files
    → asked file place ≡ by_path (path_at files file) place)
    → (numbers : List FileNo) (paths : List (List ℕ)) (place : ℕ) → AreFiles files numbers paths
    → first_reason asked place numbers ≡ first_reason by_path place paths
reasons_by_path files asked by_path same [] [] place are = refl
reasons_by_path files asked by_path same [] (path ∷ paths) place are = absurd (cc)
reasons_by_path files asked by_path same (number ∷ numbers) [] place are = absurd (cc)
reasons_by_path files asked by_path same (number ∷ numbers) (path ∷ paths) place are =
    let head : slice_get files number.0 ≡ Some path = cc in
    let rest : AreFiles files numbers paths = cc in
    ap₂ option_or (same number place (slice_get_within files number.0 path head)
    ∙ ap (λ (o : Option (List ℕ)). by_path (unwrap_or o []) place) head)
    (reasons_by_path files asked by_path same numbers paths (place + 1) rest)

pub newest_by_path : (files : List (List ℕ)) (time : FileNo → ℕ) (by_path : List ℕ → ℕ)
    → ((file : FileNo) → file.0 < length files → time file ≡ by_path (path_at files file))
    → (numbers : List FileNo) (paths : List (List ℕ)) → AreFiles files numbers paths
    → newest time numbers ≡ newest by_path paths
newest_by_path files time by_path same [] [] are = refl
newest_by_path files time by_path same [] (path ∷ paths) are = absurd (cc)
newest_by_path files time by_path same (number ∷ numbers) [] are = absurd (cc)
newest_by_path files time by_path same (number ∷ numbers) (path ∷ paths) are =
    let head : slice_get files number.0 ≡ Some path = cc in
    let rest : AreFiles files numbers paths = cc in
    ap₂ (λ (n : ℕ) (o : Option ℕ). Some (max n (unwrap_or o 0)))
    (same number (slice_get_within files number.0 path head)
    ∙ ap (λ (o : Option (List ℕ)). by_path (unwrap_or o [])) head)
    (newest_by_path files time by_path same numbers paths rest)

pub first_by_path : (files : List (List ℕ)) (time : FileNo → ℕ) (by_path : List ℕ → ℕ)
    → ((file : FileNo) → file.0 < length files → time file ≡ by_path (path_at files file))
    → (wanted : ℕ) (numbers : List FileNo) (paths : List (List ℕ)) (place : ℕ)
    → AreFiles files numbers paths
    → first_with time wanted place numbers ≡ first_with by_path wanted place paths
first_by_path files time by_path same wanted [] [] place are = refl
first_by_path files time by_path same wanted [] (path ∷ paths) place are = absurd (cc)
first_by_path files time by_path same wanted (number ∷ numbers) [] place are = absurd (cc)
first_by_path files time by_path same wanted (number ∷ numbers) (path ∷ paths) place are =
    let head : slice_get files number.0 ≡ Some path = cc in
    let rest : AreFiles files numbers paths = cc in
    ap₂ (λ (n : ℕ) (r : Option ℕ). if n == wanted then Some place else r)
    (same number (slice_get_within files number.0 path head)
    ∙ ap (λ (o : Option (List ℕ)). by_path (unwrap_or o [])) head)
    (first_by_path files time by_path same wanted numbers paths (place + 1) rest)

-- ---- times

other : (one two : List ℕ) → bytes_eq one two ≡ false → bytes_eq two one ≡ false
other one two differ = by (bytes_eq two one) refl
  where
    by : (b : Bool) → bytes_eq two one ≡ b → b ≡ false
    by true same = absurd (true≢false (sym ((bytes_eq-Decides one two).1
        (sym ((bytes_eq-Decides two one).0 same))) ∙ differ))
    by false same = refl

differs_at : (file : List ℕ) (files : List (List ℕ)) (n : ℕ)
    → AllByRecursion (λ f. bytes_eq file f ≡ false) files
    → n < length files → bytes_eq file (unwrap_or (slice_get files n) []) ≡ false
differs_at file [] n all within = absurd (omega arith)
differs_at file (first ∷ files) zero all within = all.0
differs_at file (first ∷ files) (suc n) all within = differs_at file files n all.1 (omega arith)

pub time_at : (files : List (List ℕ)) (times : List ℕ) (n : ℕ) → IsDistinct bytes_eq files
    → length times ≡ length files → n < length files
    → time_of files times (unwrap_or (slice_get files n) []) ≡ slice_index times n
unfolding IsDistinct
time_at [] times n distinct count within = absurd (omega arith)
time_at (file ∷ files) [] n distinct count within = absurd (omega arith)
time_at (file ∷ files) (time ∷ times) zero distinct count within =
    ap (λ b. if b then time else time_of files times file) ((bytes_eq-Decides file file).1 refl)
time_at (file ∷ files) (time ∷ times) (suc n) distinct count within =
    let path = unwrap_or (slice_get files n) [] in
    ap (λ b. if b then time else time_of files times path)
    (other file path (differs_at file files n distinct.0 (omega arith)))
    ∙ time_at files times n distinct.1 (omega arith) (omega arith)
