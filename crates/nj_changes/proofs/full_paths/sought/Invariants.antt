use Rattle.std.proofs.Common.{◌≡◌, map, take, string_bytes}
use Rattle.nj_changes.specs.FullPaths.{full_path, path_below}
use Rattle.nj_changes.proofs.full_paths.sought.Given as goal

abbrev pub invariant-dirs : goal.invariant-dirs
invariant-dirs l =
    map (λ full. full.items) l.found.items
    ≡ map (λ dir. full_path l.folder (path_below (string_bytes dir) l.path)) (take l.dir-index l.dirs)
