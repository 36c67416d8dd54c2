-- The directories above paths, in a table.
use Rattle.std.specs.Prelude.{◌≡◌, ℕ, ◌==◌, if◌then◌else◌, List, [], ◌∷◌, ◌++◌, map}
use Rattle.std.specs.List.{list_any}
use Rattle.nj_names.specs.NameTables.{is_among}
use Rattle.nj_chosen.specs.Directories.{is_below}

-- the part of a path before each of its slashes
abbrev pub folders_of : (path : List ℕ) → List (List ℕ)
folders_of [] = []
folders_of (byte ∷ path) = (if byte == 47 then [] ∷ [] else []) ++ map (λ folder. byte ∷ folder) (folders_of path)

-- the directories that have one of the paths below them
abbrev pub AreFoldersOf : (paths folders : List (List ℕ)) → Type 0
AreFoldersOf paths folders = (folder : List ℕ) → is_among folders folder ≡ list_any (is_below folder) paths
