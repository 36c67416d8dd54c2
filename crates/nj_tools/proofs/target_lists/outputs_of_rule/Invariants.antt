use Rattle.std.proofs.Common.{◌≡◌, List, bytes_eq, flat_map}
use Rattle.std.specs.List.{AllByRecursion}
use Rattle.nj_scope.specs.ReadingList.{ReadStatement}
use Rattle.nj_edges.specs.Repeats.{each_once}
use Rattle.nj_graph.specs.Graph.{IsGraphOf}
use Rattle.nj_tools.specs.Inside.Collections.{with_paths}
use Rattle.nj_tools.specs.Listings.{outputs_of_rule}
use Rattle.nj_tools.proofs.EdgeLists.{of_rule}
use Rattle.nj_tools.proofs.target_lists.outputs_of_rule.Given as goal

abbrev pub invariant-edges : goal.invariant-edges
invariant-edges l = record {
  graph : l.outputs.graph ≡ l.graph;
  all : AllByRecursion (λ edge. edge.graph ≡ l.graph) l.edge-iterator;
  paths : (entries : List ReadStatement) → IsGraphOf l.graph entries
      → with_paths l.outputs.paths (flat_map (of_rule entries l.rule) l.edge-iterator)
      ≡ each_once bytes_eq (outputs_of_rule entries l.rule);
}
