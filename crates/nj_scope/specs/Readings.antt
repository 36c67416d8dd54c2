-- The readings of files: which paths, in which order, and with which bytes.
use Rattle.std.specs.Prelude.{◌≡◌, ℕ, Bool, false, List, [], ◌∷◌, ◌++◌, map, Option, is_some, option_and_then, find, bytes_eq, ⊤}

-- one reading of a file: its path, and the bytes that were found there; `None` if no file was there
pub record Reading : Type 0 where
  pub path : List ℕ
  pub bytes : Option (List ℕ)

-- the paths, in the order in which they were read
abbrev pub paths_of : List Reading → List (List ℕ)
paths_of readings = map (λ r. r.path) readings

-- the first reading of the path
abbrev pub reading_of : List Reading → List ℕ → Option Reading
reading_of done path = find (λ r. bytes_eq path r.path) done

-- whether the path was read
abbrev pub is_read : List Reading → List ℕ → Bool
is_read done path = is_some (reading_of done path)

-- the bytes that were found at the path; `None` if it was not read, or no file was there
abbrev pub bytes_in : List Reading → List ℕ → Option (List ℕ)
bytes_in done path = option_and_then (λ r. r.bytes) (reading_of done path)

-- no path was read twice
abbrev pub EachPathOnce : List Reading → Type 0
EachPathOnce [] = ⊤
EachPathOnce (r ∷ rs) = (is_read rs r.path ≡ false) × EachPathOnce rs

-- the whole list begins with the front
abbrev pub IsPrefix : {A : Type 0} → (front whole : List A) → Type 0
IsPrefix {A} front whole = (others : List A) × (whole ≡ front ++ others)
