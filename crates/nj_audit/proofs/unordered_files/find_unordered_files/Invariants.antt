use Rattle.std.proofs.Common.{◌≡◌, ◌+◌, ℕ, List, length}
use Rattle.std.specs.List.{range_with_len}
use Rattle.nj_scope.specs.ReadingList.{ReadStatement}
use Rattle.nj_graph.specs.Graph.{IsGraphOf, edges_of}
use Rattle.nj_graph.specs.Handles.{edges_in}
use Rattle.nj_audit.specs.Audit.{numbers}
use Rattle.nj_audit.specs.UnorderedFiles.{AreNamedUnordered}
use Rattle.nj_audit.proofs.unordered_files.find_unordered_files.Given as goal

abbrev pub invariant-edges : goal.invariant-edges
invariant-edges l = record {
  place : ℕ;
  of : l.edge-iterator ≡ edges_in l.graph (range_with_len place (length l.edge-iterator));
  count : place + length l.edge-iterator ≡ length (edges_of l.graph);
  seen : l.seen.graph ≡ l.graph;
  makers : l.makers ≡ edges_of l.graph;
  users : l.users ≡ edges_of l.graph;
  found : (entries : List ReadStatement) → IsGraphOf l.graph entries
      → AreNamedUnordered l.graph entries l.folder (numbers place) l.found;
}
