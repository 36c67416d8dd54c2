use Rattle.std.proofs.Common.{◌≡◌, ◌+◌, take, drop}
use Rattle.nj_needs.specs.Inside.Paths.{places}
use Rattle.nj_needs.proofs.resume_point.Saved.save.Given as goal

abbrev pub invariant-changed : goal.invariant-changed
invariant-changed l = record {
  so_far : l.self.numbers.items ≡ take (l.self.kept + l.frame-index) (places l.path);
  rest : l.frame-items ≡ drop l.self.kept l.path;
  kept : l.self.kept ≡ l.fn.self.kept;
  capacity : l.self.numbers.capacity ≡ l.fn.self.numbers.capacity;
}
