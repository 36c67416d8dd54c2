-- Files that were found, by number.
use Rattle.std.specs.Prelude.{ℕ, List, map}
use Rattle.nj_names.specs.NameTables.{name_at}
use Rattle.nj_names.specs.NumberSets.{NumberSetModel}

-- their paths, in the order in which they were found
abbrev pub paths_found : (files : List (List ℕ)) → NumberSetModel → List (List ℕ)
paths_found files found = map (name_at files) found.numbers
