-- Inputs by the numbers of their paths in a list of names. Nothing here has to be believed.
use Rattle.std.specs.Prelude.{◌≡◌, ℕ, ◌<◌, List, ◌++◌, map, length}
use Rattle.std.specs.List.{AllByRecursion}
use Rattle.nj_text.specs.Paths.{clean_path_of}
use Rattle.nj_names.specs.NameTables.{name_at}
use Rattle.nj_scope.specs.Readings.{IsPrefix}

abbrev pub AreBelow : (count : ℕ) → List ℕ → Type 0
AreBelow count numbers = AllByRecursion (λ number. number < count) numbers

-- Names were added, if any, and at the end of the list the numbers of the given paths.
pub record Appends (paths : List (List ℕ)) (old_names new_names : List (List ℕ)) (old new : List ℕ) : Type 0 where
  pub names : IsPrefix old_names new_names
  pub added : List ℕ
  pub numbers : new ≡ old ++ added
  pub below : AreBelow (length new_names) added
  pub paths_are : map (name_at new_names) added ≡ paths

-- the numbers, in the given names, of the clean paths of a list, one for each
pub record AreCleanNumbers (paths names : List (List ℕ)) (numbers : List ℕ) : Type 0 where
  pub below : AreBelow (length names) numbers
  pub paths_are : map (name_at names) numbers ≡ map clean_path_of paths
