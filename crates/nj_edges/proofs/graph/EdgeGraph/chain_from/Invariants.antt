use Rattle.std.proofs.Common.{◌-◌, length}
use Rattle.nj_names.specs.Files.{path_at}
use Rattle.nj_edges.specs.Inside.ChainsHeld.{SearchesChain, SearchesInOrder}
use Rattle.nj_edges.proofs.graph.EdgeGraph.chain_from.Given as goal

abbrev pub invariant-edges : goal.invariant-edges
invariant-edges l = record {
  searches : SearchesChain l.self l.kinds l.fn.first.0 (path_at l.self.files l.to) l.search.found
      l.search.arrivals.items l.place;
  in_order : SearchesInOrder l.self l.kinds l.search.found.numbers l.search.arrivals.items l.place;
}

abbrev pub decreases-edges : goal.decreases-edges
decreases-edges l = length l.self.edges - l.place
