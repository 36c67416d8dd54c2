-- How the files that C supplies are held.
use Rattle.std.specs.Prelude.{◌≡◌, ℕ, List, [], ◌∷◌, Option, Some, None, is_some, unwrap_or, length, position, slice_get, bytes_eq, if◌then◌else◌}
use Rattle.std.specs.Global.{Vec}
use Rattle.std.specs.List.{AllByRecursion}
use Rattle.nj_scope.specs.Readings.{Reading}
use Rattle.nj_c.specs.declared.supplied_files.NumberedReading.{NumberedReading}

-- the reading of the file with the given number: an empty file without a number
abbrev pub read_bytes : List (Option (List ℕ)) → Option ℕ → Option (List ℕ)
read_bytes files None = Some []
read_bytes files (Some number) = unwrap_or (slice_get files number) None

abbrev pub reading_held : List (Option (List ℕ)) → NumberedReading → Reading
reading_held files r = record { path = r.path.items; bytes = read_bytes files r.number }

-- a file for each path, and each reading has the number of its path
abbrev pub AreSupplied : List (List ℕ) → List (Option (Vec ℕ)) → List NumberedReading → Type 0
AreSupplied paths files read = (length files ≡ length paths)
    × AllByRecursion (λ r. r.number ≡ position (bytes_eq r.path.items) paths) read

-- the path of a reading that was not supplied
abbrev pub wanted_of : NumberedReading → List (List ℕ)
wanted_of r = if is_some r.number then [] else r.path.items ∷ []
