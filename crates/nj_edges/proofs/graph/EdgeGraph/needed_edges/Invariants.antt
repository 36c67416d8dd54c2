use Rattle.std.proofs.Common.{◌-◌, map, length}
use Rattle.nj_names.specs.Files.{path_at}
use Rattle.nj_edges.specs.Inside.SearchHeld.{FindsNeeded}
use Rattle.nj_edges.proofs.graph.EdgeGraph.needed_edges.Given as goal

abbrev pub invariant-edges : goal.invariant-edges
invariant-edges l = FindsNeeded l.self.edges (map (path_at l.self.files) l.files) l.found l.place

abbrev pub decreases-edges : goal.decreases-edges
decreases-edges l = length l.self.edges - l.place
