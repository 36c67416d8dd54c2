use Rattle.std.proofs.Common.{◌≡◌, ◌≤◌, length, drop}
use Rattle.nj_edges.specs.Inside.UsersHeld.{AreCounted, using_edges}
use Rattle.nj_edges.proofs.users.user_counts.Given as goal

abbrev pub invariant-rows : goal.invariant-rows
invariant-rows l = record {
  count : length l.counts.items ≡ l.count;
  marks : length l.marks.items ≡ l.count;
  within : l.edge ≤ length l.rows;
  counted : AreCounted l.counts.items l.marks.items
      (using_edges l.files l.row_part l.edge (drop l.edge l.rows));
}

abbrev pub decreases-rows : goal.decreases-rows
decreases-rows l = l.edge
