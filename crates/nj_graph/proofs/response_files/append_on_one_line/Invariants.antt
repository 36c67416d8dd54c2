use Rattle.std.proofs.Common.{◌≡◌, ◌++◌, take}
use Rattle.nj_graph.specs.ResponseFiles.{on_one_line}
use Rattle.nj_graph.proofs.response_files.append_on_one_line.Given as goal

abbrev pub invariant-bytes : goal.invariant-bytes
invariant-bytes l = l.out.items ≡ l.fn.out.items ++ on_one_line (take l.byte-index l.text)
