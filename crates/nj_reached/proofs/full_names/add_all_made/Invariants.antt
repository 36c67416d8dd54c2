use Rattle.std.proofs.Common.{◌++◌}
use Rattle.std.specs.List.{flat_map}
use Rattle.nj_changes.specs.Tables.{SameNames}
use Rattle.nj_graph.specs.Graph.{edges_of}
use Rattle.nj_reached.specs.GraphChanges.{outputs_made}
use Rattle.nj_reached.specs.GraphChanges.{full_paths}
use Rattle.nj_reached.specs.Inside.Handles.{full_outputs_made}
use Rattle.nj_reached.proofs.full_names.add_all_made.Given as goal

abbrev pub invariant-edges : goal.invariant-edges
invariant-edges l = SameNames (l.names ++ full_outputs_made l.folder l.edge-iterator)
    (l.fn.names ++ full_paths l.folder (flat_map outputs_made (edges_of l.graph)))
