-- A walk as a caller sees it, and its state inside.
use Rattle.std.specs.Prelude.{◌≡◌, ◌≤◌, ◌+◌, ◌-◌}
use Rattle.nj_needs.specs.Graphs.{count_of}
use Rattle.nj_needs.specs.Walks.{WalkState, rest_of, bound_of}
use Rattle.nj_needs.specs.Inside.Standing.{IsWalk, left_of, turns_left_of}
use Rattle.nj_needs.specs.Inside.Saved.{KeepsFront}
use Rattle.nj_needs.specs.declared.walk.Walk.{Walk}
use Rattle.nj_needs.specs.declared.resume_point.Saved.{Saved}

abbrev pub state_of : Walk → Saved → WalkState
state_of w s = record {
  graph = w.turns.graph.now;
  targets = w.turns.targets.now;
  begun = w.begun;
  mark = s.numbers.items;
  left = left_of w.turns.graph.now w.turns.targets.now w.path.items w.place;
  turns = bound_of w.turns.graph.now w.turns.targets.now + w.begun
      - turns_left_of w.turns.graph.now w.turns.targets.now w.path.items w.place;
}

pub record IsNeeds (w : Walk) (s : Saved) : Type 0 where
  pub walk : IsWalk w
  pub front : KeepsFront s w.path.items
  pub capacity : count_of w.turns.graph.now ≤ s.numbers.capacity
  pub rest : left_of w.turns.graph.now w.turns.targets.now w.path.items w.place
      ≡ rest_of w.turns.graph.now w.turns.targets.now s.numbers.items
