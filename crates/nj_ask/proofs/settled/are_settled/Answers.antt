use Rattle.std.proofs.Common.{◌∙◌, ap, arith, length, subst, sym}
use Rattle.nj_edges.specs.EdgeGraphs.{EdgeGraph}
use Rattle.nj_ask.specs.Inside.Reached.{edge_numbers}
use Rattle.nj_ask.specs.Settled.{IsSettledEdge}
use Rattle.nj_ask.specs.Settled.AreSettled.{settled, unsettled}
use Rattle.nj_ask.proofs.settled.are_settled.Goals as goal

pub returns-then-not-branch : goal.returns-then-not-branch
returns-then-not-branch g c entries is =
    let count = c.edge_count-number-end.ensures.count ∙ ap (λ (v : EdgeGraph). length v.edges) c.deref.ensures
    in
    unsettled {edge = c.edges.number} (
      omega (arith, c.edges-test.true, count),
      sym c.is_set.ensures ∙ c.if-is_set.true,
    )
    (subst (IsSettledEdge c.args.known.now entries (g.T.FileTimes.times c.args.times.now)
    (edge_numbers c.args.commands.now) c.edges.number) c.if-not-branch.true
    (c.in_ok-is_settled.ensures entries is))

pub returns : goal.returns
returns g c entries is =
    let count = c.edge_count-number-end.ensures.count ∙ ap (λ (v : EdgeGraph). length v.edges) c.deref.ensures
    in
    settled (λ edge asked. let below = asked.0 in c.edges.invariant entries is edge
    (omega (arith, below, c.edges-test.false, count)) asked.1)
