use Rattle.std.proofs.Common.{◌≡◌, ◌++◌, map}
use Rattle.nj_tools.proofs.sorted_paths.sorted_paths.Given as goal

abbrev pub invariant-files : goal.invariant-files
invariant-files l = map (λ path. path.now) l.paths.items ++ map (λ file. file.path) l.file-iterator
    ≡ map (λ file. file.path) l.fn.files
