use Rattle.std.proofs.Common.{◌≡◌, ◌++◌}
use Rattle.nj_ask.specs.Inside.FileLines.{path_lines}
use Rattle.nj_ask.proofs.listing.push_paths.Given as goal

abbrev pub invariant-files : goal.invariant-files
invariant-files l =
    l.lines.items ++ path_lines l.prefix l.file-iterator ≡ l.fn.lines.items ++ path_lines l.prefix l.fn.files
