use Rattle.std.proofs.Common.{◌≡◌, ◌≤◌}
use Rattle.nj_needs.specs.Inside.Standing.{left_of, turns_left_of}
use Rattle.nj_needs.specs.Inside.Views.{IsNeeds}
use Rattle.nj_needs.proofs.next_edge.next_edge.Given as goal

abbrev pub invariant-turns : goal.invariant-turns
invariant-turns l = record {
  needs : IsNeeds l.walk l.saved;
  graph : l.walk.turns.graph ≡ l.fn.walk.turns.graph;
  targets : l.walk.turns.targets ≡ l.fn.walk.turns.targets;
  begun : l.walk.begun ≡ l.fn.walk.begun;
  left : left_of l.walk.turns.graph.now l.walk.turns.targets.now l.walk.path.items l.walk.place
      ≡ left_of l.fn.walk.turns.graph.now l.fn.walk.turns.targets.now l.fn.walk.path.items l.fn.walk.place;
  turns : turns_left_of l.walk.turns.graph.now l.walk.turns.targets.now l.walk.path.items l.walk.place ≤
      turns_left_of l.fn.walk.turns.graph.now l.fn.walk.turns.targets.now l.fn.walk.path.items
      l.fn.walk.place;
  mark : l.saved.numbers ≡ l.fn.saved.numbers;
}

abbrev pub decreases-turns : goal.decreases-turns
decreases-turns l = turns_left_of l.walk.turns.graph.now l.walk.turns.targets.now l.walk.path.items
    l.walk.place
