use Rattle.std.proofs.Common.{subst}
use Rattle.std.proofs.lemmas.Result.{IfOk-weaker}
use Rattle.nj_cycles.specs.Cycles.{IsFirstOnCycle}
use Rattle.nj_cycles.specs.Inside.Marks.{IsLeastOf}
use Rattle.nj_cycles.proofs.Ranks.{ranked, answered}
use Rattle.nj_cycles.proofs.check.first_on_cycle.Goals as goal

pub returns-then-not-finished : goal.returns-then-not-finished
returns-then-not-finished g c =
    let finished = c.in_ok-finished in
    ranked (g.I.EdgeInputs.makers c.args.inputs.now) (g.I.EdgeInputs.count c.args.inputs.now)
    finished.finished.order.items finished.ensures.walked
    (finished.ensures.falling c.if-not-finished.true)

pub returns : goal.returns
returns g c =
    let makers = g.I.EdgeInputs.makers c.args.inputs.now in
    let count = g.I.EdgeInputs.count c.args.inputs.now in
    IfOk-weaker c.least_on_cycle.result (IsLeastOf makers c.deref-2.result.now) (IsFirstOnCycle makers count)
    (λ least h.
    answered makers count c.in_ok-finished.finished.order.items c.in_ok-finished.ensures.walked least
    (subst (λ xs. IsLeastOf makers xs least) c.deref-2.ensures.value h))
    c.least_on_cycle.ensures
