use Rattle.std.proofs.Common.{◌≡◌, ℕ, List}
use Rattle.std.specs.List.{flat_map, range_with_len}
use Rattle.nj_ask.specs.Shape.{line_if_changes}
use Rattle.nj_ask.specs.Inside.Flags.{AreMarks}
use Rattle.nj_ask.proofs.shape.marked_lines.Given as goal

abbrev pub invariant-files : goal.invariant-files
invariant-files l =
    (files changed edges : List ℕ) → AreMarks l.graph files changed edges l.marks
    → l.lines.items ≡ flat_map (line_if_changes l.graph l.what files changed edges)
    (range_with_len 0 l.number)
