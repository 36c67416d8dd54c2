use Rattle.std.proofs.Common.{map, take}
use Rattle.std.specs.Prelude.{Contains}
use Rattle.nj_graph.specs.Handles.{file_of}
use Rattle.nj_audit.proofs.logged_inputs.has_file.Given as goal

abbrev pub invariant-files : goal.invariant-files
invariant-files l = ¬ Contains (map (λ other. (file_of other).path) (take l.other-index l.files))
    (file_of l.file).path
