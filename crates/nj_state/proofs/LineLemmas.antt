-- The path of a file at a place.
use Rattle.std.proofs.Common.{◌≡◌, ℕ, zero, suc, Option, Some, None, List, [], ◌∷◌, get_or, length, refl}
use Rattle.std.proofs.Common.{ap}
use Rattle.std.proofs.Common.{sym, ◌∙◌, arith}
use Rattle.std.specs.Prelude.{slice_get, option_map}
use Rattle.nj_names.specs.Files.{AreFiles}
use Rattle.nj_names.specs.declared.files.FileNo.{FileNo}

abbrev rest_of : List (Option (List ℕ)) → List (Option (List ℕ))
rest_of [] = []
rest_of (x ∷ xs) = xs

-- what the files at a place are
pub file_at_place : (files : List (List ℕ)) (numbers : List FileNo) (paths : List (List ℕ)) (place : ℕ)
    → AreFiles files numbers paths
    → option_map (λ (file : FileNo). slice_get files file.0) (slice_get numbers place)
    ≡ option_map (λ path. Some path) (slice_get paths place)
file_at_place files [] [] place are = refl
file_at_place files [] (path ∷ paths) place are = absurd (omega (arith, ap length are))
file_at_place files (number ∷ numbers) [] place are = absurd (omega (arith, ap length are))
file_at_place files (number ∷ numbers) (path ∷ paths) zero are =
    ap (λ xs. Some (get_or xs 0 None)) are
file_at_place files (number ∷ numbers) (path ∷ paths) (suc place) are =
    file_at_place files numbers paths place (ap rest_of are)

some_same : (one found : Option (List ℕ)) → Some one ≡ option_map (λ (path : List ℕ). Some path) found
    → one ≡ found
some_same one None h = absurd (cc)
some_same one (Some path) h = cc

none_same : (found : Option (List ℕ)) → None ≡ option_map (λ (path : List ℕ). Some path) found → found ≡ None
none_same None h = refl
none_same (Some path) h = absurd (cc)

-- if a file is at the place
pub some_at_place : (files : List (List ℕ)) (numbers : List FileNo) (paths : List (List ℕ)) (place : ℕ)
    (file : FileNo)
    → AreFiles files numbers paths → slice_get numbers place ≡ Some file
    → slice_get files file.0 ≡ slice_get paths place
some_at_place files numbers paths place file are found =
    some_same (slice_get files file.0) (slice_get paths place)
    (ap (option_map (λ (f : FileNo). slice_get files f.0)) (sym found)
    ∙ file_at_place files numbers paths place are)

-- and if no file is at the place
pub none_at_place : (files : List (List ℕ)) (numbers : List FileNo) (paths : List (List ℕ)) (place : ℕ)
    → AreFiles files numbers paths → slice_get numbers place ≡ None → slice_get paths place ≡ None
none_at_place files numbers paths place are found =
    none_same (slice_get paths place)
    (ap (option_map (λ (f : FileNo). slice_get files f.0)) (sym found)
    ∙ file_at_place files numbers paths place are)
