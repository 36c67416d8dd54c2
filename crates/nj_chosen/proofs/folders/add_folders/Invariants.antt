use Rattle.std.proofs.Common.{◌++◌, take}
use Rattle.nj_changes.specs.Tables.{SameNames}
use Rattle.nj_chosen.specs.Inside.Folders.{folders_of}
use Rattle.nj_chosen.proofs.folders.add_folders.Given as goal

abbrev pub invariant-bytes : goal.invariant-bytes
invariant-bytes l = SameNames l.folders (l.fn.folders ++ folders_of (take l.index l.path))
