use Rattle.std.proofs.Common.{◌≡◌, map, take}
use Rattle.nj_c.proofs.wanted_files.copied_paths.Given as goal

abbrev pub invariant-files : goal.invariant-files
invariant-files l = map (λ p. p.items) l.paths.items ≡ take l.number l.files
