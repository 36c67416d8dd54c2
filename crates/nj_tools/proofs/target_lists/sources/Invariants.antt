use Rattle.std.proofs.Common.{◌≡◌, bytes_eq, flat_map}
use Rattle.std.specs.List.{AllByRecursion}
use Rattle.nj_edges.specs.Repeats.{each_once}
use Rattle.nj_graph.specs.Graph.{edges_of}
use Rattle.nj_tools.specs.Inside.Collections.{with_paths}
use Rattle.nj_tools.specs.Listings.{sources_in}
use Rattle.nj_tools.proofs.EdgeLists.{sources_of}
use Rattle.nj_tools.proofs.target_lists.sources.Given as goal

abbrev pub invariant-edges : goal.invariant-edges
invariant-edges l = record {
  graph : l.sources.graph ≡ l.graph;
  all : AllByRecursion (λ edge. edge.graph ≡ l.graph) l.edge-iterator;
  paths : with_paths l.sources.paths (flat_map sources_of l.edge-iterator)
      ≡ each_once bytes_eq (sources_in (edges_of l.graph));
}
