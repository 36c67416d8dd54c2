use Rattle.std.proofs.Common.{◌≡◌, false, take}
use Rattle.nj_edges.specs.Inside.EdgesHeld.{has_number}
use Rattle.nj_edges.proofs.edges.has_file.Given as goal

abbrev pub invariant-files : goal.invariant-files
invariant-files l = has_number l.file.0 (take l.other-index l.files) ≡ false
