use Rattle.std.proofs.Common.{take}
use Rattle.nj_edges.specs.Inside.MarksHeld.{MarksFiles}
use Rattle.nj_edges.proofs.more_inputs.mark_files.Given as goal

abbrev pub invariant-files : goal.invariant-files
invariant-files l = MarksFiles (take l.file-index l.files) l.edge l.fn.marks l.marks
