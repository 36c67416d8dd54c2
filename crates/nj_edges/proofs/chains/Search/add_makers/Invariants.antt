use Rattle.std.proofs.Common.{◌-◌, length}
use Rattle.std.specs.Prelude.{slice_index}
use Rattle.nj_edges.specs.Chains.{inputs_with}
use Rattle.nj_edges.specs.Edges.{edge_at}
use Rattle.nj_edges.specs.Inside.ChainsHeld.{AddsInOrder, AddsMakers, MakesInputBefore}
use Rattle.nj_edges.proofs.chains.Search.add_makers.Given as goal

abbrev pub invariant-inputs : goal.invariant-inputs
invariant-inputs l = record {
  adds : AddsMakers l.graph l.kinds (MakesInputBefore l.graph l.kinds l.index
      (slice_index l.fn.self.found.numbers l.fn.place)) l.fn.place
      l.fn.self.found l.self.found l.fn.self.arrivals.items l.self.arrivals.items;
  in_order : AddsInOrder l.graph l.kinds (slice_index l.fn.self.found.numbers l.fn.place) l.index
      l.fn.self.found l.self.found l.self.arrivals.items;
}

abbrev pub decreases-inputs : goal.decreases-inputs
decreases-inputs l = length (inputs_with l.kinds (edge_at l.graph.edges l.edge.0)) - l.index
