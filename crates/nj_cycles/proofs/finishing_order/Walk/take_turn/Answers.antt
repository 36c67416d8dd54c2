use Rattle.std.proofs.Common.{arith}
use Rattle.std.specs.Prelude.{slice_index}
use Rattle.nj_cycles.proofs.Places.{needs_got}
use Rattle.nj_cycles.proofs.Walking.{top_in}
use Rattle.nj_cycles.proofs.Turns.{on_ok_both, turn-opens, turn-finishes}
use Rattle.nj_cycles.proofs.finishing_order.Walk.take_turn.Goals as goal

pub open-requires : goal.open-requires
open-requires g c =
    let w = c.pass_inputs.new.self in
    let h = c.in-Some.ensures in
    omega (
      arith,
      (c.requires.edges c.args.edge c.in-Some.maker
          (needs_got (g.I.EdgeInputs.makers c.args.inputs.now) c.args.edge
          (slice_index w.next.items c.args.edge) c.in-Some.maker h.ends.0)).1,
      h.comes_after.stages_len,
      w.stages.ok.0,
    )

pub finish-requires : goal.finish-requires
finish-requires g c =
    let w = c.pass_inputs.new.self in
    let s = c.in-None.ensures.comes_after in
    omega (
      arith,
      top_in (g.I.EdgeInputs.makers c.args.inputs.now) (g.I.EdgeInputs.count c.args.inputs.now)
          w.stages.items w.next.items w.path.items w.order.items w.meets_open c.args.edge s,
      s.stages_len,
      w.stages.ok.0,
    )

pub returns-in_ok-push-in-Some : goal.returns-in_ok-push-in-Some
returns-in_ok-push-in-Some g c =
    let h = c.in-Some.ensures in
    let k = c.open.ensures in
    on_ok_both c.open.result
    (turn-opens (g.I.EdgeInputs.makers c.args.inputs.now) (g.I.EdgeInputs.count c.args.inputs.now)
    c.args.self.now c.pass_inputs.new.self c.open.new.self c.args.edge h.stages h.comes_after k.next
    k.meets_open
    c.in-Some.maker c.push.new.self.items c.requires.edges h.ends k.order c.in_ok-push-in-Some.ensures.items)
    k.path k.stages

pub returns-in-None : goal.returns-in-None
returns-in-None g c =
    let h = c.in-None.ensures in
    let k = c.finish.ensures in
    on_ok_both c.finish.result
    (turn-finishes (g.I.EdgeInputs.makers c.args.inputs.now) (g.I.EdgeInputs.count c.args.inputs.now)
    c.args.self.now c.pass_inputs.new.self c.finish.new.self c.args.edge h.stages h.comes_after k.next
    k.meets_open h.ends k.path)
    k.order k.stages
