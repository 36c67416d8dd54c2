use Rattle.std.proofs.Common.{◌≡◌, ◌+◌, drop, bytes_eq}
use Rattle.std.specs.List.{position_or_len}
use Rattle.nj_keys.specs.Inside.Folders.{paths}
use Rattle.nj_keys.proofs.bases.number_of.Given as goal

abbrev pub invariant-folders : goal.invariant-folders
invariant-folders l = l.number + position_or_len (bytes_eq l.path) (paths (drop l.number l.folders))
    ≡ position_or_len (bytes_eq l.path) (paths l.folders)
