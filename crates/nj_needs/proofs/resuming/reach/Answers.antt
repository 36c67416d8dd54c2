use Rattle.std.proofs.Common.{◌≡◌, ◌<◌, ◌≤◌, length, take, ◌∙◌, arith}
use Rattle.std.proofs.lemmas.List.{length-take-le}
use Rattle.nj_needs.specs.Inside.Heading.{IsHeading}
use Rattle.nj_needs.specs.Inside.Standing.{top_of, turns_left_of}
use Rattle.nj_needs.proofs.ResumeLemmas.{turn-goes}
use Rattle.nj_needs.proofs.resuming.reach.Goals as goal
use Rattle.nj_needs.proofs.resuming.reach.Goals.{After-take_turn, then-len-depth+else-walk-place}
use Rattle.nj_needs.proofs.resuming.reach.Goals.{else-len-depth}

goes : (c : After-take_turn) → IsHeading (take c.args.depth c.args.walk.now.path.items) c.args.place
    c.take_turn.new.self.path.items c.take_turn.new.self.place
    × (turns_left_of c.take_turn.new.self.turns.graph.now c.take_turn.new.self.turns.targets.now
    c.take_turn.new.self.path.items c.take_turn.new.self.place
    < turns_left_of c.turns.walk.turns.graph.now c.turns.walk.turns.targets.now c.turns.walk.path.items
    c.turns.walk.place)
goes c =
    let w = c.turns.walk in
    let e = c.take_turn.ensures in
    let base = take c.args.depth c.args.walk.now.path.items in
    let len : length base ≡ c.args.depth =
    length-take-le c.args.depth c.args.walk.now.path.items c.requires.depth in
    let elsewhere : length w.path.items ≡ length base → w.place ≡ c.args.place → ⊥ =
    λ long at. elim c.if-len-depth.branch [
      | then-len-depth+else-walk-place b ↦ b.if-walk-place.false at
      | else-len-depth b ↦ b.if-len-depth.false (omega (arith, long, len, c.len.ensures))
    ] in
    let inside : c.args.place ≤ length (top_of w.turns.graph.now w.turns.targets.now base) =
    rw (c.turns.invariant.graph, c.turns.invariant.targets) c.requires.place_in in
    turn-goes w c.take_turn.new.self e.graph e.targets base c.args.place c.turns.invariant.heading elsewhere
    inside c.take_turn.result e.turn

pub turns-smaller : goal.turns-smaller
turns-smaller c = (goes c).1

pub turns-preserved : goal.turns-preserved
turns-preserved c =
    let e = c.take_turn.ensures in
    let i = c.turns.invariant in
    record {
      walk = e.walk;
      heading = (goes c).0;
      graph = e.graph ∙ i.graph;
      targets = e.targets ∙ i.targets;
      begun = e.begun ∙ i.begun;
    }
