use Rattle.std.proofs.Common.{◌≡◌, ◌-◌, length}
use Rattle.nj_edges.specs.Inside.NeedsSearched.{IsSearched}
use Rattle.nj_edges.proofs.search_state.SearchState.finds.Given as goal

abbrev pub invariant-edges : goal.invariant-edges
invariant-edges l = record {
  edge : l.self.edge ≡ l.fn.self.edge;
  starts : l.self.starts.items ≡ l.fn.self.starts.items;
  searched : IsSearched l.graph.edges l.fn.self.starts.items l.self.found l.self.place;
}

abbrev pub decreases-edges : goal.decreases-edges
decreases-edges l = length l.graph.edges - l.self.place
