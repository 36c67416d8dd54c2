use Rattle.std.proofs.Common.{◌≢◌, ℕ, sum_by}
use Rattle.nj_cycles.specs.declared.finishing_order.Stage.TheVariants.{Unseen}
use Rattle.nj_cycles.specs.Inside.Walks.{stage_of, turns_of, WalkIsSound}
use Rattle.nj_cycles.proofs.finishing_order.Walk.visit.Given as goal

abbrev pub invariant-turns : goal.invariant-turns
invariant-turns g l = record {
  sound : WalkIsSound (g.I.EdgeInputs.makers l.inputs) (g.I.EdgeInputs.count l.inputs) l.self;
  seen : stage_of l.self.stages.items l.edge ≢ Unseen;
  kept : (e : ℕ) → stage_of l.fn.self.stages.items e ≢ Unseen → stage_of l.self.stages.items e ≢ Unseen;
}

abbrev pub decreases-turns : goal.decreases-turns
decreases-turns g l = sum_by turns_of l.self.stages.items
