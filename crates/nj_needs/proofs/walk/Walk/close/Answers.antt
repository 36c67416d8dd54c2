use Rattle.std.proofs.Common.{◌+◌, true, set, sym, ◌∙◌, arith}
use Rattle.nj_needs.specs.Inside.Tops.{counted}
use Rattle.nj_needs.specs.Inside.Standing.{IsWalkAt}
use Rattle.nj_needs.proofs.TurnLemmas.{walk-close, turn-close, turn-end, close-within}
use Rattle.nj_needs.proofs.walk.Walk.close.Goals as goal

pub returns-in_default-clause-turn : goal.returns-in_default-clause-turn
returns-in_default-clause-turn c =
    let w = c.args.self.now in
    let empty = c.in_default.ensures.items in
    turn-end w.turns.graph.now w.turns.targets.now w.turns.taken w.path w.place w.flags.items w.begun
    c.requires.walk empty.0 c.requires.past c.pop.new.self.items (empty.1 ∙ sym empty.0)

pub close-phony-requires-clause-edge_in : goal.close-phony-requires-clause-edge_in
close-phony-requires-clause-edge_in c =
    let w = c.args.self.now in
    close-within w.turns.graph.now w.turns.targets.now w.turns.taken w.path w.place w.flags.items w.begun
    c.requires.walk
    c.in-Some.frame c.pop.new.self c.in-Some.ensures.items c.in-Some.ensures.capacity c.requires.past

pub close-phony-requires-clause-flag_in : goal.close-phony-requires-clause-flag_in
close-phony-requires-clause-flag_in c =
    let w = c.args.self.now in
    let within = close-within w.turns.graph.now w.turns.targets.now w.turns.taken w.path w.place w.flags.items
    w.begun c.requires.walk
    c.in-Some.frame c.pop.new.self c.in-Some.ensures.items c.in-Some.ensures.capacity c.requires.past in
    omega (arith, within, c.requires.walk.standing.flags_len)

pub returns-clause-walk : goal.returns-clause-walk
returns-clause-walk c =
    let w = c.args.self.now in
    let f = c.in-Some.frame in
    let base : IsWalkAt w.turns.graph.now w.turns.targets.now (counted w.turns.taken) c.pop.new.self
    (f.at + 1) (set w.flags.items f.edge.0 true) w.begun =
    walk-close w.turns.graph.now w.turns.targets.now w.turns.taken w.path w.place w.flags.items w.begun
    c.requires.walk
    f c.pop.new.self c.in-Some.ensures.items c.in-Some.ensures.capacity c.requires.past in
    rw (
      c.close-phony.ensures.graph,
      c.close-phony.ensures.targets,
      c.close-phony.ensures.turn,
      c.close-phony.ensures.flag,
    ) base

pub returns-clause-turn : goal.returns-clause-turn
returns-clause-turn c =
    let w = c.args.self.now in
    let f = c.in-Some.frame in
    rw c.close-phony.ensures.phony (turn-close w.turns.graph.now w.turns.targets.now w.turns.taken w.path
    w.place w.flags.items w.begun c.requires.walk
    f c.pop.new.self c.in-Some.ensures.items c.in-Some.ensures.capacity c.requires.past)
