use Rattle.std.proofs.Common.{◌≡◌, ◌<◌, ◌-◌, min, List, [], ◌∷◌, ◌++◌, sym, ap, subst, ◌∙◌, arith}
use Rattle.nj_needs.specs.Graphs.{count_of}
use Rattle.nj_needs.specs.Inside.Paths.{places}
use Rattle.nj_needs.specs.declared.frame.Frame.{Frame}
use Rattle.nj_needs.specs.Inside.Saved.{KeepsFront}
use Rattle.nj_needs.specs.Inside.Standing.{turns_left_of}
use Rattle.nj_needs.proofs.NeedsLemmas.{looked-left, looked-less, looked-needs, closed-less, closed-front}
use Rattle.nj_needs.proofs.NeedsLemmas.{closed-left, closed-needs, returned-capacity, returned-needs}
use Rattle.nj_needs.proofs.NeedsLemmas.{returned-first, returned-left, ended-needs, ended-left, ended-turns}
use Rattle.nj_needs.proofs.Below.{first-below}
use Rattle.nj_needs.proofs.next_edge.next_edge.Goals as goal

pub turns-preserved-in-Looked : goal.turns-preserved-in-Looked
turns-preserved-in-Looked c =
    let w = c.turns.walk in
    let v = c.take_turn.new.self in
    let e = c.in-Looked.ensures in
    let i = c.turns.invariant in
    record {
      needs = looked-needs w v e.graph e.targets e.turn c.turns.saved i.needs e.walk;
      graph = e.graph ∙ i.graph;
      targets = e.targets ∙ i.targets;
      begun = e.begun ∙ i.begun;
      left = looked-left w v e.graph e.targets e.turn ∙ i.left;
      turns = omega (arith, looked-less w v e.graph e.targets e.turn, i.turns);
      mark = i.mark;
    }

pub turns-smaller-in-Looked : goal.turns-smaller-in-Looked
turns-smaller-in-Looked c = looked-less c.turns.walk c.take_turn.new.self c.in-Looked.ensures.graph
    c.in-Looked.ensures.targets c.in-Looked.ensures.turn

pub save-requires-clause-front : goal.save-requires-clause-front
save-requires-clause-front c =
    let e = c.in-Closed.ensures in
    rw c.as_slice.ensures (closed-front c.turns.walk c.take_turn.new.self e.graph e.targets c.in-Closed.edge.0
    c.in-Closed.phony e.turn c.turns.saved c.back_to.new.self
    c.back_to.ensures.numbers (c.back_to.ensures.kept ∙ ap (λ n. min c.turns.saved.kept n) c.len.ensures)
    c.turns.invariant.needs.front)

pub save-requires-clause-capacity : goal.save-requires-clause-capacity
save-requires-clause-capacity c =
    let e = c.in-Closed.ensures in
    rw c.as_slice.ensures (returned-capacity c.turns.walk c.take_turn.new.self e.graph e.targets
    c.in-Closed.edge.0 c.in-Closed.phony e.turn c.turns.saved c.back_to.new.self
    c.back_to.ensures.numbers c.turns.invariant.needs)

pub returns-then-not-phony-clause-after : goal.returns-then-not-phony-clause-after
returns-then-not-phony-clause-after c =
    let e = c.in-Closed.ensures in
    returned-needs c.turns.walk c.take_turn.new.self e.graph e.targets c.in-Closed.edge.0 c.in-Closed.phony
    e.turn c.turns.saved c.back_to.new.self c.save.new.self
    c.back_to.ensures.numbers c.save.ensures.capacity
    (subst (KeepsFront c.save.new.self) c.as_slice.ensures c.save.ensures.kept)
    (c.save.ensures.numbers ∙ ap (λ (p : List Frame). places p ++ (c.take_turn.new.self.place - 1) ∷ [])
    c.as_slice.ensures) c.turns.invariant.needs e.walk

pub returns-then-not-phony-clause-next : goal.returns-then-not-phony-clause-next
returns-then-not-phony-clause-next c =
    let e = c.in-Closed.ensures in
    record {
      first = sym c.turns.invariant.left ∙ returned-left c.turns.walk c.take_turn.new.self e.graph e.targets
          c.in-Closed.edge.0 c.in-Closed.phony e.turn c.if-not-phony.true;
      mark = returned-first c.turns.walk c.take_turn.new.self e.graph e.targets c.in-Closed.edge.0
          c.in-Closed.phony e.turn c.save.new.self
          (c.save.ensures.numbers ∙ ap (λ (p : List Frame). places p ++ (c.take_turn.new.self.place - 1) ∷ [])
          c.as_slice.ensures);
    }

pub returns-then-not-phony-clause-known : goal.returns-then-not-phony-clause-known
returns-then-not-phony-clause-known c =
    let w = c.turns.walk in
    let h = c.turns.invariant.needs.walk in
    let below = first-below w.turns.graph.now w.turns.targets.now (places w.path.items) c.in-Closed.edge.0
    h.acyclic h.inside c.in-Closed.ensures.turn.first in
    subst (λ g. c.in-Closed.edge.0 < count_of g.now) c.turns.invariant.graph below

pub turns-smaller : goal.turns-smaller
turns-smaller c =
    let e = c.in-Closed.ensures in
    closed-less c.turns.walk c.take_turn.new.self e.graph e.targets c.in-Closed.edge.0 c.in-Closed.phony
    e.turn

pub turns-preserved : goal.turns-preserved
turns-preserved c =
    let w = c.turns.walk in
    let v = c.take_turn.new.self in
    let e = c.in-Closed.ensures in
    let i = c.turns.invariant in
    record {
      needs = closed-needs w v e.graph e.targets c.in-Closed.edge.0 c.in-Closed.phony e.turn c.turns.saved
          c.back_to.new.self c.back_to.ensures.numbers
          (c.back_to.ensures.kept ∙ ap (λ n. min c.turns.saved.kept n) c.len.ensures) c.if-not-phony.false
          i.needs e.walk;
      graph = e.graph ∙ i.graph;
      targets = e.targets ∙ i.targets;
      begun = e.begun ∙ i.begun;
      left = closed-left w v e.graph e.targets c.in-Closed.edge.0 c.in-Closed.phony e.turn
          c.if-not-phony.false
          ∙ i.left;
      turns = omega (
        arith,
        closed-less w v e.graph e.targets c.in-Closed.edge.0 c.in-Closed.phony e.turn,
        i.turns,
      );
      mark = c.back_to.ensures.numbers ∙ i.mark;
    }

pub returns-then-not-phony-clause-turns : goal.returns-then-not-phony-clause-turns
returns-then-not-phony-clause-turns c =
    let e = c.in-Closed.ensures in
    omega (
      arith,
      closed-less c.turns.walk c.take_turn.new.self e.graph e.targets c.in-Closed.edge.0
          c.in-Closed.phony e.turn,
      c.turns.invariant.turns,
    )

pub returns-in-Ended-clause-turns : goal.returns-in-Ended-clause-turns
returns-in-Ended-clause-turns c =
    let e = c.in-Ended.ensures in
    let none : turns_left_of c.take_turn.new.self.turns.graph.now c.take_turn.new.self.turns.targets.now
    c.take_turn.new.self.path.items c.take_turn.new.self.place ≡ 0 =
    ended-turns c.turns.walk c.take_turn.new.self e.graph e.targets e.turn in
    omega (arith, none)

pub returns-in-Ended-clause-after : goal.returns-in-Ended-clause-after
returns-in-Ended-clause-after c =
    let e = c.in-Ended.ensures in
    ended-needs c.turns.walk c.take_turn.new.self e.graph e.targets e.turn c.turns.saved
    c.turns.invariant.needs e.walk

pub returns-in-Ended-clause-next : goal.returns-in-Ended-clause-next
returns-in-Ended-clause-next c =
    let w = c.turns.walk in
    let v = c.take_turn.new.self in
    let e = c.in-Ended.ensures in
    let none : turns_left_of v.turns.graph.now v.turns.targets.now v.path.items v.place ≡ 0 =
    ended-turns w v e.graph e.targets e.turn in
    record {
      none = sym c.turns.invariant.left ∙ e.turn.left;
      none_after = ended-left w v e.graph e.targets e.turn;
      mark = ap (λ n. n.items) c.turns.invariant.mark;
      turns = omega (arith, none);
    }
