use Rattle.std.proofs.Common.{◌≡◌, ◌+◌, ℕ, List, length, map, take}
use Rattle.std.specs.List.{flat_map, range_with_len}
use Rattle.nj_graph.specs.Edges.{edges_from}
use Rattle.nj_graph.specs.Graph.{IsGraphOf, edges_of}
use Rattle.nj_graph.specs.Handles.{edges_in}
use Rattle.nj_graph.specs.ReadingList.{ReadStatement}
use Rattle.nj_discovered.specs.Discoveries.{found_at}
use Rattle.nj_ask.specs.DiscoveredGraphs.{doubt_line, is_doubtful}
use Rattle.nj_ask.proofs.doubts.doubts_of.Given as goal

abbrev pub invariant-edges : goal.invariant-edges
invariant-edges l = record {
  place : ℕ;
  of : l.edge-iterator ≡ edges_in l.graph (range_with_len place (length l.edge-iterator));
  count : place + length l.edge-iterator ≡ length (edges_of l.graph);
  edges : map (λ edge. edge.0) l.edges.items
      ≡ edges_from 0 (λ edge. is_doubtful edge.verdict) (take place l.found.edges);
  lines : (entries : List ReadStatement) → IsGraphOf l.graph entries → l.lines.items
      ≡ flat_map (λ edge. doubt_line entries edge (found_at l.found edge).verdict) (range_with_len 0 place);
}
