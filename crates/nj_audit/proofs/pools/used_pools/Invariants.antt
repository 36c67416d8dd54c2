use Rattle.std.proofs.Common.{◌≡◌, ◌||◌, ℕ, List}
use Rattle.std.specs.List.{filter_map}
use Rattle.nj_scope.specs.ReadingList.{ReadStatement}
use Rattle.nj_statements.specs.EdgeList.{assigned_at, assigned_read}
use Rattle.nj_graph.specs.Edges.{is_among}
use Rattle.nj_graph.specs.Graph.{IsGraphOf}
use Rattle.nj_audit.specs.Audit.{pools_of_edges}
use Rattle.nj_audit.proofs.HandleLemmas.{AreOf, numbers_of}
use Rattle.nj_audit.proofs.pools.used_pools.Given as goal

abbrev pub invariant-edges : goal.invariant-edges
invariant-edges l = record {
  of : AreOf l.graph l.edge-iterator;
  used : (entries : List ReadStatement) (name : List ℕ) → IsGraphOf l.graph entries
      → (is_among l.used name || is_among (filter_map
      (λ edge. (assigned_at (assigned_read entries) edge).pool)
      (numbers_of l.edge-iterator)) name) ≡ is_among (pools_of_edges l.graph entries) name;
}
