use Rattle.std.proofs.Common.{◌≡◌, ◌<◌, ◌+◌, ◌∙◌, Bool, List, ℕ, arith, ap₂, length, set, subst, sym}
use Rattle.std.specs.Prelude.{slice_index}
use Rattle.std.proofs.lemmas.List.{get_or_default}
use Rattle.nj_stale.specs.Inside.WorkHeld.{AreFlagged, work_held}
use Rattle.nj_stale.proofs.WorkLemmas.{all_flags, more_flags}
use Rattle.nj_stale.proofs.work.work_flags.Goals as goal

pub turns-preserved : goal.turns-preserved
turns-preserved c =
    let edges = c.args.graph.now.edges in
    let reasons = c.args.reasons.now in
    let order = c.in_ok-order.order.items in
    let turn = c.turns.turn in
    let flags = c.turns.flags.items in
    let within : turn < length order = omega (arith, c.turns-test.true, c.len-turn-end.ensures) in
    let at : c.index.result.now ≡ slice_index order turn =
    c.index.ensures ∙ get_or_default order turn c.index.result.now 0 within in
    subst (λ e. AreFlagged edges reasons order (turn + 1) (set flags e c.has_work.result)) (sym at)
    (more_flags edges reasons order turn flags c.has_work.result c.in_ok-order.ensures within
    (c.has_work.ensures ∙ ap₂ (λ (fs : List Bool) (e : ℕ). work_held edges reasons fs e)
    c.deref.ensures.value at) c.turns.invariant)

pub returns : goal.returns
returns c = all_flags c.args.graph.now.edges c.args.reasons.now c.in_ok-order.order.items c.turns.turn
    c.turns.flags.items c.in_ok-order.ensures (λ k lt.
    omega (arith, c.turns-test.false, c.len-turn-end.ensures)) c.turns.invariant
