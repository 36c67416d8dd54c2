use Rattle.std.proofs.Common.{◌≡◌, ◌+◌, ℕ, length}
use Rattle.std.specs.List.{range_with_len}
use Rattle.nj_edges.specs.Inside.ChangesHeld.{FindsMore}
use Rattle.nj_graph.specs.Graph.{edges_of}
use Rattle.nj_graph.specs.Handles.{edges_in}
use Rattle.nj_audit.specs.Inside.Served.{AreFound}
use Rattle.nj_audit.proofs.ServingLemmas.{IsCommandBelow}
use Rattle.nj_audit.proofs.serving.add_commands.Given as goal

abbrev pub invariant-edges : goal.invariant-edges
invariant-edges l = record {
  place : ℕ;
  of : l.edge-iterator ≡ edges_in l.graph (range_with_len place (length l.edge-iterator));
  count : place + length l.edge-iterator ≡ length (edges_of l.graph);
  are : AreFound l.graph l.found;
  finds : FindsMore (IsCommandBelow (edges_of l.graph) place) l.fn.found.set l.found.set;
}
