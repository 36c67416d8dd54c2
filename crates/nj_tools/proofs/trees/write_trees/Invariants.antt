use Rattle.std.proofs.Common.{◌≤◌, ◌+◌, ◌*◌, List, length}
use Rattle.nj_scope.specs.ReadingList.{ReadStatement}
use Rattle.nj_graph.specs.Graph.{edges_of, IsGraphOf}
use Rattle.nj_tools.specs.Inside.Outputs.{IsSame, Leaves}
use Rattle.nj_tools.specs.Listings.{trees_text}
use Rattle.nj_tools.specs.Inside.Trees.{AreIn, rows_lines, rows_of, rows_text}
use Rattle.nj_tools.proofs.trees.write_trees.Given as goal

abbrev pub invariant-files : goal.invariant-files
invariant-files g l = record {
  same : IsSame l.fn.out l.out;
  left : (entries : List ReadStatement) → IsGraphOf l.graph entries
      → Leaves g.S.Sink.state l.fn.out l.out (trees_text entries l.depth)
      (rows_text entries (l.below + 1) 0 (rows_of l.rows.items));
  all : AreIn l.graph l.rows.items;
  levels : length l.rows.items ≤ l.below + 1;
}

abbrev pub decreases-files : goal.decreases-files
decreases-files g l = 2 * rows_lines (edges_of l.graph) (l.below + 1) 0 (rows_of l.rows.items) + length
    l.rows.items
