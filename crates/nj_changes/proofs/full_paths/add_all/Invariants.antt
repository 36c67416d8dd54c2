use Rattle.std.proofs.Common.{◌++◌, map, take}
use Rattle.nj_changes.specs.Tables.{SameNames}
use Rattle.nj_changes.proofs.full_paths.add_all.Given as goal

abbrev pub invariant-paths : goal.invariant-paths
invariant-paths l = SameNames l.names (l.fn.names ++ map (λ path. path.items) (take l.path-index l.paths))
