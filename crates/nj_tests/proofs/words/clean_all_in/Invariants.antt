use Rattle.std.proofs.Common.{◌≡◌, map, take}
use Rattle.nj_text.specs.Paths.{clean_path_of}
use Rattle.nj_tests.specs.Words.{path_in}
use Rattle.nj_tests.proofs.words.clean_all_in.Given as goal

abbrev pub invariant-paths : goal.invariant-paths
invariant-paths l = map (λ name. name.items) l.names.items
    ≡ map (λ path. clean_path_of (path_in l.folder path)) (map (λ path. path.now) (take l.path-index l.paths))
