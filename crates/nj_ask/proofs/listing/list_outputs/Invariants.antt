use Rattle.std.proofs.Common.{◌≡◌, ◌++◌}
use Rattle.nj_ask.specs.Inside.Lent.{asked_of}
use Rattle.nj_ask.specs.Inside.FileLines.{output_lines}
use Rattle.nj_ask.proofs.listing.list_outputs.Given as goal

abbrev pub invariant-edges : goal.invariant-edges
invariant-edges l =
    l.lines.items ++ output_lines (asked_of l.listed) l.edge-iterator
    ≡ output_lines (asked_of l.listed) l.fn.edges
