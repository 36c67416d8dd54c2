use Rattle.std.proofs.Common.{◌-◌, map, length}
use Rattle.nj_names.specs.Files.{path_at}
use Rattle.nj_edges.specs.Inside.DirtyHeld.{FindsDirty}
use Rattle.nj_edges.specs.Inside.UsersHeld.{numbers_of}
use Rattle.nj_edges.proofs.graph.EdgeGraph.dirty_edges.Given as goal

abbrev pub invariant-edges : goal.invariant-edges
invariant-edges l = FindsDirty l.self.edges (map (path_at l.self.files) l.files) (numbers_of l.edges) l.found
    l.place

abbrev pub decreases-edges : goal.decreases-edges
decreases-edges l = length l.self.edges - l.place
