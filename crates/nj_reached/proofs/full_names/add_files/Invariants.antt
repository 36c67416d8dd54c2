use Rattle.std.proofs.Common.{◌++◌}
use Rattle.nj_changes.specs.Tables.{SameNames}
use Rattle.nj_reached.specs.Inside.Handles.{full_paths_in}
use Rattle.nj_reached.proofs.full_names.add_files.Given as goal

abbrev pub invariant-files : goal.invariant-files
invariant-files l =
    SameNames (l.names ++ full_paths_in l.folder l.file-iterator)
    (l.fn.names ++ full_paths_in l.folder l.fn.files)
