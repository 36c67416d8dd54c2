use Rattle.std.proofs.Common.{◌<◌, ◌-◌, length, arith, sym}
use Rattle.nj_edge_env.proofs.BoundLemmas.{none-after, searched-here}
use Rattle.nj_edge_env.proofs.name_values.bound_of.Goals as goal

pub returns-then-last-edge : goal.returns-then-last-edge
returns-then-last-edge c =
    let some : 0 < length c.args.bounds.now = c.in-Some.ensures.item.3.0 in
    searched-here c.args.bounds.now c.args.edge (length c.args.bounds.now - 1) c.in-Some.last.now c.requires
    (omega arith) c.in-Some.ensures.item.1 c.if-last-edge.true

pub returns-then-last-edge-2 : goal.returns-then-last-edge-2
returns-then-last-edge-2 c =
    let some : 0 < length c.args.bounds.now = c.in-Some.ensures.item.3.0 in
    sym (none-after c.args.bounds.now c.args.edge (length c.args.bounds.now - 1) c.in-Some.last.now c.requires
    (omega arith) c.in-Some.ensures.item.1 c.if-last-edge-2.true)
