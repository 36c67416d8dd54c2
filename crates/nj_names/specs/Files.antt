-- The paths that build statements name.
use Rattle.std.specs.Prelude.{◌≡◌, ℕ, Some, List, map, slice_get}
use Rattle.nj_names.specs.NameTables.{name_at}
use Rattle.nj_names.specs.declared.files.FileNo.{FileNo}

-- the path of the file with the given number
abbrev pub path_at : (files : List (List ℕ)) → FileNo → List ℕ
path_at files file = name_at files file.0

-- the given numbers are of files that have the given paths, in the same order
abbrev pub AreFiles : (files : List (List ℕ)) → (numbers : List FileNo) → (paths : List (List ℕ)) → Type 0
AreFiles files numbers paths = map (λ file. slice_get files file.0) numbers ≡ map Some paths
