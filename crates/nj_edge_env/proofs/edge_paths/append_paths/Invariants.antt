use Rattle.std.proofs.Common.{◌≡◌, ◌++◌, map, take}
use Rattle.nj_names.specs.Files.{path_at}
use Rattle.nj_edge_env.specs.LateStrings.{paths_text}
use Rattle.nj_edge_env.proofs.edge_paths.append_paths.Given as goal

abbrev pub invariant-paths : goal.invariant-paths
invariant-paths l = l.out.items ≡ l.fn.out.items
    ++ paths_text l.quoting l.separator (map (path_at l.files) (take l.index l.paths))
