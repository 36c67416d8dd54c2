use Rattle.std.proofs.Common.{ℕ, List, map, take, string_bytes}
use Rattle.std.specs.Borrow.{Bor}
use Rattle.std.specs.List.{flat_map}
use Rattle.nj_changes.specs.FullPaths.{sought}
use Rattle.nj_changes.specs.Tables.{SameNames}
use Rattle.nj_changes.proofs.full_paths.all_sought.Given as goal

abbrev pub invariant-paths : goal.invariant-paths
invariant-paths l =
    SameNames l.names (flat_map (λ (path : Bor (List ℕ)). sought l.folder (map string_bytes l.dirs) path.now)
    (take l.path-index l.paths))
