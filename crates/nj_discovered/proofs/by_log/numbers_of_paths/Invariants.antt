use Rattle.std.proofs.Common.{◌≡◌, ◌++◌, List, ℕ, [], map}
use Rattle.nj_text.specs.Paths.{clean_path_of}
use Rattle.nj_discovered.specs.Inside.Numbers.{Appends}
use Rattle.nj_discovered.proofs.by_log.numbers_of_paths.Given as goal

-- some paths were taken, and the others are left
abbrev pub invariant-paths : goal.invariant-paths
invariant-paths l = (taken : List (List ℕ)) × (taken ++ l.path-iterator ≡ l.log.paths)
    × Appends (map clean_path_of taken) [] l.names [] l.numbers.items
