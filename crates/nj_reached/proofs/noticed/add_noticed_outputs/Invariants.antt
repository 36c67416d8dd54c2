use Rattle.std.proofs.Common.{List, ◌++◌, map}
use Rattle.std.specs.List.{flat_map}
use Rattle.nj_changes.specs.Tables.{SameNames}
use Rattle.nj_graph.specs.Graph.{IsGraphOf, edges_of}
use Rattle.nj_graph.specs.ReadingList.{ReadStatement}
use Rattle.nj_reached.specs.GraphChanges.{full_paths, noticed_outputs}
use Rattle.nj_reached.specs.Inside.Handles.{AreOf, full_noticed}
use Rattle.nj_reached.proofs.noticed.add_noticed_outputs.Given as goal

abbrev pub invariant-edges : goal.invariant-edges
invariant-edges l = record {
  of : AreOf l.graph l.edge-iterator;
  names : (entries : List ReadStatement) → IsGraphOf l.graph entries
      → SameNames (l.names ++ full_noticed l.graph entries l.folder l.edge-iterator)
      (l.fn.names ++ full_paths l.folder (flat_map (noticed_outputs entries (edges_of l.graph))
      (map (λ edge. edge.0) l.touched)));
}
