use Rattle.nj_cycles.proofs.Ranks.{after_needs}
use Rattle.nj_cycles.proofs.check.makers_first.Goals as goal

pub returns : goal.returns
returns g c = after_needs (g.I.EdgeInputs.makers c.args.inputs.now) (g.I.EdgeInputs.count c.args.inputs.now)
    c.in_ok-finished.finished.order.items c.in_ok-finished.ensures.walked c.requires
