use Rattle.std.proofs.Common.{◌≡◌, ◌≤◌, take, vec_capacity}
use Rattle.nj_needs.proofs.resume_point.Saved.new.Given as goal

abbrev pub invariant-copied : goal.invariant-copied
invariant-copied l = record {
  so_far : l.held.items ≡ take l.number-index l.numbers;
  capacity : l.fn.capacity ≤ vec_capacity l.held;
}
