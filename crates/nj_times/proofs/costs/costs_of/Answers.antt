use Rattle.std.proofs.Common.{◌≡◌, ◌+◌, ◌*◌, ◌^◌, ◌∙◌, ℕ, List, ap, arith}
use Rattle.std.specs.Prelude.{slice_index}
use Rattle.nj_edges.specs.Needs.{makers_of_inputs}
use Rattle.nj_times.specs.Inside.CostsHeld.{cost_held, greatest}
use Rattle.nj_times.proofs.CostLemmas.{all_costs, greatest_small, more_costs}
use Rattle.nj_times.proofs.costs.costs_of.Goals as goal

pub overflow_add-from : goal.overflow_add-from
overflow_add-from c =
    let edges = c.args.graph.now.edges in
    let edge = slice_index c.args.order.now c.turns.turn in
    let small = greatest_small c.turns.costs.items (c.turns.turn * 2 ^ 64) (makers_of_inputs edges edge)
    c.turns.invariant.small in
    let before = c.greatest_before-before.ensures
    ∙ ap (λ (cs : List ℕ). greatest cs (makers_of_inputs edges edge)) c.deref.ensures.value in
    let from = c.from.ensures in
    let time = c.time_at.type_inv in
    omega (arith, small, before, from, time, c.turns-test.true)

pub turns-preserved : goal.turns-preserved
turns-preserved c =
    let edges = c.args.graph.now.edges in
    let durations = c.args.durations.now in
    let order = c.args.order.now in
    let edge = slice_index order c.turns.turn in
    let before = c.greatest_before-before.ensures
    ∙ ap (λ (cs : List ℕ). greatest cs (makers_of_inputs edges edge)) c.deref.ensures.value in
    let from = c.from.ensures in
    let time = c.time_at.ensures in
    let cost = c.from.result + c.greatest_before-before.result in
    let is : cost ≡ cost_held edges durations c.turns.costs.items edge = omega (arith, before, from, time) in
    more_costs edges durations order c.turns.turn c.turns.costs.items c.requires.order c.turns-test.true
    c.turns.invariant cost is (omega (arith, time, c.time_at.type_inv))

pub returns : goal.returns
returns c =
    all_costs c.args.graph.now.edges c.args.durations.now c.args.order.now c.turns.turn c.turns.costs.items
    c.requires.order c.requires.durations (omega (arith, c.turns-test.false)) c.turns.invariant
