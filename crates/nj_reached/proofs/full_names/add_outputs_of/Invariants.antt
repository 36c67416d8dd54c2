use Rattle.std.proofs.Common.{◌++◌}
use Rattle.nj_changes.specs.Tables.{SameNames}
use Rattle.nj_reached.specs.Inside.Handles.{full_outputs}
use Rattle.nj_reached.proofs.full_names.add_outputs_of.Given as goal

abbrev pub invariant-edges : goal.invariant-edges
invariant-edges l =
    SameNames (l.names ++ full_outputs l.folder l.edge-iterator)
    (l.fn.names ++ full_outputs l.folder l.fn.edges)
