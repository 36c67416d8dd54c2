use Rattle.std.proofs.Common.{◌≡◌, map, take, string_bytes}
use Rattle.nj_tests.specs.Words.{path_in}
use Rattle.nj_test_lists.proofs.targets.all_in.Given as goal

abbrev pub invariant-paths : goal.invariant-paths
invariant-paths l =
    map string_bytes l.read.items ≡ map (path_in l.folder) (map string_bytes (take l.path-index l.paths))
