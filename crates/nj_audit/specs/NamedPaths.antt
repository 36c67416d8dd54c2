-- The paths that names may mean.
use Rattle.std.specs.Prelude.{ℕ, ◌==◌, Bool, nat_eq, ◌||◌, not, if◌then◌else◌, Option, Some, None, unwrap_or, List, [], ◌∷◌, ◌++◌, codes, drop, length, position, bytes_eq}
use Rattle.std.specs.List.{starts_with}
use Rattle.nj_text.specs.Paths.{clean_path_of, is_absolute}

-- the text after the slash with which a text begins
abbrev pub after_slash : (text : List ℕ) → Option (List ℕ)
after_slash [] = None
after_slash (b ∷ text) = if b == 47 then Some text else None

-- a path without the directory that it begins with, if a directory is given
abbrev pub without_folder : (folder path : List ℕ) → List ℕ
without_folder folder path =
    if length folder == 0 || not (starts_with nat_eq path folder) then path
    else unwrap_or (after_slash (drop (length folder) path)) path

-- the path of a name, as seen from the directory; `None` for an empty name
abbrev pub path_named : (folder name : List ℕ) → Option (List ℕ)
path_named folder [] = None
path_named folder (b ∷ name) = Some (without_folder folder (clean_path_of (b ∷ name)))

-- a name, and the directory from which a command sees it, as entered by `cd`, or empty
pub record SeenName : Type 0 where
  pub folder : List ℕ
  pub name : List ℕ

-- a name, as seen from a directory
abbrev pub seen_from : (folder name : List ℕ) → SeenName
seen_from folder name = record { folder = folder; name = name }

-- a path is absolute, or no directory is given in which to read it
abbrev pub stands_alone : (folder path : List ℕ) → Bool
stands_alone folder path = length folder == 0 || is_absolute path

-- a path that is read in a directory, if any
abbrev pub path_below : (folder path : List ℕ) → List ℕ
path_below folder path = if stands_alone folder path then path else folder ++ 47 ∷ path

-- a name without `$PWD/`, `${PWD}/` or `$(pwd)/`, the directory in which a command reads it
abbrev pub without_here : (name : List ℕ) → List ℕ
without_here name =
    if starts_with nat_eq name (codes "$PWD/") then drop 5 name
    else (if starts_with nat_eq name (codes "${PWD}/") || starts_with nat_eq name (codes "$(pwd)/") then drop 7 name
    else name)

-- the path of a name, as seen from the directory of the build
abbrev pub path_seen : (folder : List ℕ) → SeenName → Option (List ℕ)
path_seen folder seen =
    if length seen.name == 0 then None else path_named folder (path_below seen.folder (without_here seen.name))

-- the number of the file at a path, if any
abbrev pub number_at : (files : List (List ℕ)) → (path : List ℕ) → Option ℕ
number_at files path = position (bytes_eq path) files
