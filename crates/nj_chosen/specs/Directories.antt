-- Directories and what is below them, by clean paths.
use Rattle.std.specs.Prelude.{ℕ, Bool, ◌||◌, not, List, [], ◌∷◌, ◌++◌, nat_eq, bytes_eq}
use Rattle.std.specs.List.{list_any, starts_with}

-- a path is below a directory
abbrev pub is_below : (folder path : List ℕ) → Bool
is_below folder path = starts_with nat_eq path (folder ++ 47 ∷ [])

-- a path is a given directory, or is above it
abbrev pub is_at_or_above : (path folder : List ℕ) → Bool
is_at_or_above path folder = bytes_eq path folder || is_below path folder

-- A path is a telling directory: neither the build directory nor a source directory, nor above one of them. Those have everything below
-- them.
abbrev pub is_telling : (roots : List (List ℕ)) → (path : List ℕ) → Bool
is_telling roots path = not (list_any (is_at_or_above path) roots)
