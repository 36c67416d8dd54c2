use Rattle.std.proofs.Common.{◌++◌}
use Rattle.nj_changes.specs.Tables.{SameNames}
use Rattle.nj_reached.specs.Inside.Handles.{full_unused}
use Rattle.nj_reached.proofs.noticed.add_unused.Given as goal

abbrev pub invariant-files : goal.invariant-files
invariant-files l =
    SameNames (l.names ++ full_unused l.folder l.file-iterator)
    (l.fn.names ++ full_unused l.folder l.fn.files)
