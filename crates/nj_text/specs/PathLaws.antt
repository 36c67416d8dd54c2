-- Laws of clean paths.
use Rattle.std.specs.Prelude.{◌≡◌, ℕ, ◌+◌, ◌<◌, List, [], ◌∷◌, ◌++◌, length, replicate}
use Rattle.std.specs.List.{join_with_byte, All}
use Rattle.nj_text.specs.Paths.{IsName, clean_path_of}

-- `.`, or `/`, or some `..` and then names, joined by slashes, or a slash and then names, joined by slashes
pub data IsCleanPath (path : List ℕ) : Type 0 where
  IsHere : path ≡ 46 ∷ [] → IsCleanPath path
  IsRoot : path ≡ 47 ∷ [] → IsCleanPath path
  IsRelative : (ups : ℕ) (names : List (List ℕ)) → 0 < ups + length names → All IsName names
      → path ≡ join_with_byte 47 (replicate ups (46 ∷ 46 ∷ []) ++ names) → IsCleanPath path
  IsAbsolute : (names : List (List ℕ)) → 0 < length names → All IsName names → path ≡ 47 ∷ join_with_byte 47 names → IsCleanPath path

-- a cleaned path is clean: no component is empty or `.`, and `..` comes only before all names, never in an absolute
-- path
abbrev pub CleanedPathsAreClean : Type 0
CleanedPathsAreClean = (path : List ℕ) → IsCleanPath (clean_path_of path)

-- cleaning leaves a clean path unchanged
abbrev pub CleanPathsStay : Type 0
CleanPathsStay = (path : List ℕ) → IsCleanPath path → clean_path_of path ≡ path

-- cleaning twice is cleaning once
abbrev pub CleaningIsIdempotent : Type 0
CleaningIsIdempotent = (path : List ℕ) → clean_path_of (clean_path_of path) ≡ clean_path_of path
