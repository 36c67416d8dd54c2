use Rattle.std.proofs.Common.{◌≡◌, ◌++◌}
use Rattle.nj_tools.specs.Inside.Pieces.{output_lines}
use Rattle.nj_tools.specs.Lines.{line}
use Rattle.nj_tools.proofs.queries.append_outputs.Given as goal

abbrev pub invariant-edges : goal.invariant-edges
invariant-edges l = l.text.items ++ output_lines l.edge-iterator
    ≡ l.fn.text.items ++ (line l.title ++ output_lines l.fn.edges)
