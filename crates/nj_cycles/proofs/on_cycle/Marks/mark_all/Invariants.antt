use Rattle.std.proofs.Common.{ℕ, ◌<◌}
use Rattle.std.specs.Prelude.{Contains, slice_index}
use Rattle.nj_cycles.specs.Inside.Marks.{IsMarked, MarksMore}
use Rattle.nj_cycles.proofs.on_cycle.Marks.mark_all.Given as goal

abbrev pub invariant-edges : goal.invariant-edges
invariant-edges l = record {
  more : MarksMore (Contains l.edges) l.fn.self l.self;
  marked : (i : ℕ) → i < l.edge-index → IsMarked l.self.flags.items (slice_index l.edges i);
}
