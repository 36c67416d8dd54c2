use Rattle.std.proofs.Common.{◌≡◌, take}
use Rattle.nj_needs.specs.Inside.Heading.{IsHeading}
use Rattle.nj_needs.specs.Inside.Standing.{IsWalk, turns_left_of}
use Rattle.nj_needs.proofs.resuming.reach.Given as goal

abbrev pub invariant-turns : goal.invariant-turns
invariant-turns l = record {
  walk : IsWalk l.walk;
  heading : IsHeading (take l.depth l.fn.walk.path.items) l.place l.walk.path.items l.walk.place;
  graph : l.walk.turns.graph ≡ l.fn.walk.turns.graph;
  targets : l.walk.turns.targets ≡ l.fn.walk.turns.targets;
  begun : l.walk.begun ≡ l.fn.walk.begun;
}

abbrev pub decreases-turns : goal.decreases-turns
decreases-turns l = turns_left_of l.walk.turns.graph.now l.walk.turns.targets.now l.walk.path.items
    l.walk.place
