use Rattle.std.proofs.Common.{◌≡◌, ◌++◌, map}
use Rattle.std.specs.List.{AllByRecursion}
use Rattle.nj_graph.specs.Graph.{edges_of}
use Rattle.nj_graph.specs.Handles.{paths_of}
use Rattle.nj_discovered.specs.Discoveries.{found_at}
use Rattle.nj_ask.specs.DiscoveredGraphs.{edge_discoveries, edge_discovery}
use Rattle.nj_ask.proofs.doubts.discoveries_of.Given as goal

abbrev pub invariant-edges : goal.invariant-edges
invariant-edges l = record {
  of : AllByRecursion (λ edge. edge.graph ≡ l.graph) l.edge-iterator;
  so_far : l.discoveries.items
      ++ map (λ edge. edge_discovery (paths_of edge) (found_at l.found edge.number)) l.edge-iterator
      ≡ edge_discoveries (edges_of l.graph) l.found;
}
