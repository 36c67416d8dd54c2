use Rattle.std.proofs.Common.{◌≡◌, ◌≤◌, length, drop}
use Rattle.nj_edges.specs.Inside.UsersHeld.{ArePlaced, using_edges}
use Rattle.nj_edges.proofs.users.placed_users.Given as goal

abbrev pub invariant-rows : goal.invariant-rows
invariant-rows l = record {
  marks : length l.marks.items ≡ length l.fn.places;
  within : l.edge ≤ length l.rows;
  placed : ArePlaced (using_edges l.files l.row_part 0 l.rows)
      (using_edges l.files l.row_part l.edge (drop l.edge l.rows)) l.places l.marks.items l.edges.items;
}

abbrev pub decreases-rows : goal.decreases-rows
decreases-rows l = l.edge
