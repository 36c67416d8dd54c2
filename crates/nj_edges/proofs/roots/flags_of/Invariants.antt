use Rattle.std.proofs.Common.{take}
use Rattle.nj_edges.specs.Inside.RootsHeld.{AreFlags}
use Rattle.nj_edges.proofs.roots.flags_of.Given as goal

abbrev pub invariant-files : goal.invariant-files
invariant-files l = AreFlags l.file_count (take l.file-index l.files) l.flags.items
