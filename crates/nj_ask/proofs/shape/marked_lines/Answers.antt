use Rattle.nj_ask.specs.Shape.{line_if_changes}
use Rattle.nj_ask.proofs.LineLemmas.{flat-number}
use Rattle.nj_ask.proofs.shape.marked_lines.Goals as goal

pub files-preserved : goal.files-preserved
files-preserved c files changed edges marks =
    flat-number (line_if_changes c.args.graph.now c.args.what.now files changed edges) c.files.lines.items
    c.push_if_changes.new.lines.items c.files.number
    (c.files.invariant files changed edges marks) (c.in_ok-push_if_changes.ensures files changed edges marks)
