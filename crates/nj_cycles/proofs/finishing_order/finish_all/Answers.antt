use Rattle.std.proofs.Common.{arith}
use Rattle.nj_cycles.proofs.Turns.{ends}
use Rattle.nj_cycles.proofs.finishing_order.finish_all.Goals as goal

pub returns-clause-walked : goal.returns-clause-walked
returns-clause-walked g c = ends (g.I.EdgeInputs.makers c.args.inputs.now)
    (g.I.EdgeInputs.count c.args.inputs.now) c.edges.walk c.edges.invariant.sound c.edges.invariant.path
    c.edge_count-edge-end.ensures.known (λ e lt. c.edges.invariant.seen e (omega arith))
