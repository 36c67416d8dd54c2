use Rattle.std.proofs.Common.{take}
use Rattle.nj_chosen.specs.Inside.Folders.{AreFoldersOf}
use Rattle.nj_chosen.specs.Reasons.{without}
use Rattle.nj_chosen.proofs.folders.folders_above.Given as goal

abbrev pub invariant-paths : goal.invariant-paths
invariant-paths l = AreFoldersOf (without l.others (take l.number l.paths)) l.folders
