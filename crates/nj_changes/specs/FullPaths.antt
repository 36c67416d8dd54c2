-- One file, however its path is written.
use Rattle.std.specs.Prelude.{ℕ, Bool, ◌||◌, if◌then◌else◌, List, [], ◌∷◌, ◌++◌, map}
use Rattle.std.specs.List.{flat_map, list_any}
use Rattle.nj_text.specs.Calls.{is_empty}
use Rattle.nj_text.specs.Paths.{clean_path_of, is_absolute}
use Rattle.nj_names.specs.NameTables.{is_among}

-- ---- full paths

-- a path in a directory
abbrev pub path_below : (folder path : List ℕ) → List ℕ
path_below folder path = folder ++ 47 ∷ path

-- a path, made absolute by the working directory; if that is not known (it is empty), the path itself
abbrev pub absolute_by : (folder path : List ℕ) → List ℕ
absolute_by folder path = if is_empty folder || is_absolute path then path else path_below folder path

-- The full path of a path: absolute by the working directory, and clean. Paths with the same full path are the same file.
-- The full path of the empty path is empty, and no file has it.
abbrev pub full_path : (folder path : List ℕ) → List ℕ
full_path folder [] = []
full_path folder (byte ∷ path) = clean_path_of (absolute_by folder (byte ∷ path))

-- ---- changed paths

-- where a changed path may be: in each of the given directories; without directories, at the path itself
abbrev pub paths_in : (dirs : List (List ℕ)) → (path : List ℕ) → List (List ℕ)
paths_in [] path = path ∷ []
paths_in (dir ∷ dirs) path = map (λ dir. path_below dir path) (dir ∷ dirs)

-- the full paths of that
abbrev pub sought : (folder : List ℕ) → (dirs : List (List ℕ)) → (path : List ℕ) → List (List ℕ)
sought folder dirs path = map (full_path folder) (paths_in dirs path)

-- the full paths where all changed paths may be
abbrev pub all_sought : (folder : List ℕ) → (dirs : List (List ℕ)) → (paths : List (List ℕ)) → List (List ℕ)
all_sought folder dirs paths = flat_map (sought folder dirs) paths

-- one of the first paths is among the second
abbrev pub has_one : (paths others : List (List ℕ)) → Bool
has_one paths others = list_any (is_among paths) others
