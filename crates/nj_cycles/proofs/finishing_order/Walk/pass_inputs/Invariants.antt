use Rattle.std.proofs.Common.{◌≡◌, ◌-◌, length}
use Rattle.std.specs.Prelude.{slice_index}
use Rattle.nj_cycles.specs.Inside.Walks.{IsSoundAt}
use Rattle.nj_cycles.proofs.finishing_order.Walk.pass_inputs.Given as goal

abbrev pub invariant-inputs : goal.invariant-inputs
invariant-inputs g l = record {
  sound : IsSoundAt (g.I.EdgeInputs.makers l.inputs) (g.I.EdgeInputs.count l.inputs) l.self l.edge;
  stages : l.self.stages.items ≡ l.fn.self.stages.items;
}

abbrev pub decreases-inputs : goal.decreases-inputs
decreases-inputs g l = length (g.I.EdgeInputs.makers l.inputs l.edge) - slice_index l.self.next.items l.edge
