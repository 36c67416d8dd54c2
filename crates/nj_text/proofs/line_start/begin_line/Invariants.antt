use Rattle.std.proofs.Common.{◌≡◌, length}
use Rattle.nj_text.specs.Calls.{without_comments}
use Rattle.nj_text.specs.Inside.States.{lines_at}
use Rattle.nj_text.proofs.line_start.begin_line.Given as goal

abbrev pub invariant-comments : goal.invariant-comments
invariant-comments l = without_comments (lines_at l.cursor) ≡ without_comments (lines_at l.fn.start)

abbrev pub decreases-comments : goal.decreases-comments
decreases-comments l = length l.cursor.rest.now
