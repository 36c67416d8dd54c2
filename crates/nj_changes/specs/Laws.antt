-- Laws of changed paths.
use Rattle.std.specs.Prelude.{◌≡◌, ◌≢◌, ℕ, false, true, ◌==◌, List, [], ◌∷◌, ◌++◌}
use Rattle.std.specs.List.{AllByRecursion, flat_map, list_any}
use Rattle.std.specs.Str.Lines.{strip_carriage_return}
use Rattle.nj_text.specs.Paths.{is_absolute}
use Rattle.nj_changes.specs.FullPaths.{full_path, path_below}
use Rattle.nj_changes.specs.Given.{lines_of, zero_ended}

-- a path is not empty, and does not have the given byte
pub record IsWithout (byte : ℕ) (path : List ℕ) : Type 0 where
  pub some : path ≢ []
  pub none : list_any (λ b. b == byte) path ≡ false

-- a path can be given as a line: it does not end in CR, either
pub record IsLine (path : List ℕ) : Type 0 where
  pub is_one : IsWithout 10 path
  pub no_return : strip_carriage_return path ≡ path

-- paths that are written each with a zero byte after it are read unchanged
abbrev pub ZeroEndedPathsAreRead : Type 0
ZeroEndedPathsAreRead = (paths : List (List ℕ)) → AllByRecursion (IsWithout 0) paths
    → zero_ended (flat_map (λ path. path ++ 0 ∷ []) paths) ≡ paths

-- and so are those that are written each with a line feed after it
abbrev pub LinesAreRead : Type 0
LinesAreRead = (paths : List (List ℕ)) → AllByRecursion IsLine paths
    → lines_of (flat_map (λ path. path ++ 10 ∷ []) paths) ≡ paths

-- a relative path and the absolute path of the same file have the same full path
abbrev pub SpellingsAreOne : Type 0
SpellingsAreOne = (folder path : List ℕ) → is_absolute folder ≡ true → is_absolute path ≡ false → path ≢ []
    → full_path folder (path_below folder path) ≡ full_path folder path
