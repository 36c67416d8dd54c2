use Rattle.std.proofs.Common.{◌≡◌, ◌+◌, ℕ, List, length, map, take}
use Rattle.std.specs.List.{range_with_len}
use Rattle.nj_graph.specs.Edges.{edges_from}
use Rattle.nj_graph.specs.Graph.{IsGraphOf, edges_of}
use Rattle.nj_graph.specs.Handles.{edges_in}
use Rattle.nj_graph.specs.ReadingList.{ReadStatement}
use Rattle.nj_discovered.specs.Discoveries.{found_at}
use Rattle.nj_ask.specs.DiscoveredGraphs.{fault_text, is_faulty}
use Rattle.nj_ask.proofs.doubts.faults_of.Given as goal

abbrev pub invariant-edges : goal.invariant-edges
invariant-edges l = record {
  place : ℕ;
  of : l.edge-iterator ≡ edges_in l.graph (range_with_len place (length l.edge-iterator));
  count : place + length l.edge-iterator ≡ length (edges_of l.graph);
  edges : map (λ fault. fault.edge.0) l.faults.items
      ≡ edges_from 0 (λ edge. is_faulty edge.verdict) (take place l.found.edges);
  texts : (entries : List ReadStatement) → IsGraphOf l.graph entries
      → map (λ fault. fault.text.items) l.faults.items
      ≡ map (λ edge. fault_text entries edge (found_at l.found edge).verdict)
      (edges_from 0 (λ edge. is_faulty edge.verdict) (take place l.found.edges));
}
