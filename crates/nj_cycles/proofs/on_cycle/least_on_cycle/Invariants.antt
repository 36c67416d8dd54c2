use Rattle.std.proofs.Common.{◌≡◌, [], drop, length, vec_len}
use Rattle.nj_cycles.specs.Inside.Marks.{AreMarks, IsLeastOf}
use Rattle.nj_cycles.proofs.on_cycle.least_on_cycle.Given as goal

abbrev pub invariant-edges : goal.invariant-edges
invariant-edges g l = record {
  len : vec_len l.marks.flags ≡ length l.users;
  pending : l.marks.pending.items ≡ [];
  marks : AreMarks (g.I.EdgeInputs.makers l.inputs) (drop l.index l.order) l.marks.flags.items;
  least : IsLeastOf (g.I.EdgeInputs.makers l.inputs) (drop l.index l.order) l.least;
}
