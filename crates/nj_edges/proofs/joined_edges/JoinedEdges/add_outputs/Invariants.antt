use Rattle.std.proofs.Common.{◌≡◌, take}
use Rattle.nj_edges.specs.Inside.EdgesHeld.{paths_at}
use Rattle.nj_edges.specs.Inside.JoiningHeld.{plus_outputs}
use Rattle.nj_edges.proofs.joined_edges.JoinedEdges.add_outputs.Given as goal

abbrev pub invariant-files : goal.invariant-files
invariant-files l = l.self ≡ plus_outputs l.fn.self (paths_at l.fn.self.files (take l.file-index l.files))
