use Rattle.std.proofs.Common.{◌≡◌, ◌≢◌, ℕ, ◌<◌, []}
use Rattle.nj_cycles.specs.declared.finishing_order.Stage.TheVariants.{Unseen}
use Rattle.nj_cycles.specs.Inside.Walks.{stage_of, WalkIsSound}
use Rattle.nj_cycles.proofs.finishing_order.finish_all.Given as goal

abbrev pub invariant-edges : goal.invariant-edges
invariant-edges g l = record {
  sound : WalkIsSound (g.I.EdgeInputs.makers l.inputs) (g.I.EdgeInputs.count l.inputs) l.walk;
  path : l.walk.path.items ≡ [];
  seen : (e : ℕ) → e < l.edge → stage_of l.walk.stages.items e ≢ Unseen;
}
