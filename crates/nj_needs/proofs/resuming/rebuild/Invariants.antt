use Rattle.std.proofs.Common.{◌≡◌, true, take, drop}
use Rattle.nj_needs.specs.Graphs.{makers_of}
use Rattle.nj_needs.specs.Marks.{is_valid}
use Rattle.nj_needs.specs.Inside.Paths.{places}
use Rattle.nj_needs.specs.Inside.Standing.{IsWalk, top_of}
use Rattle.nj_needs.proofs.resuming.rebuild.Given as goal

abbrev pub invariant-steps : goal.invariant-steps
invariant-steps l = record {
  walk : IsWalk l.walk;
  path : places l.walk.path.items ≡ take l.number-index l.numbers;
  place : l.walk.place ≡ 0;
  valid : is_valid (makers_of l.walk.turns.graph.now)
      (top_of l.walk.turns.graph.now l.walk.turns.targets.now l.walk.path.items)
      (drop l.number-index l.numbers) ≡ true;
  graph : l.walk.turns.graph ≡ l.fn.walk.turns.graph;
  targets : l.walk.turns.targets ≡ l.fn.walk.turns.targets;
  begun : l.walk.begun ≡ l.fn.walk.begun;
}
