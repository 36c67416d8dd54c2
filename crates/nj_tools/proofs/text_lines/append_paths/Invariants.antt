use Rattle.std.proofs.Common.{◌≡◌, ◌++◌}
use Rattle.nj_tools.specs.Inside.Pieces.{path_lines}
use Rattle.nj_tools.proofs.text_lines.append_paths.Given as goal

abbrev pub invariant-files : goal.invariant-files
invariant-files l = l.text.items ++ path_lines l.beginning l.file-iterator
    ≡ l.fn.text.items ++ path_lines l.beginning l.fn.files
