use Rattle.std.proofs.Common.{reverse, arith}
use Rattle.nj_edges.specs.Inside.ChainsHeld.Traces.{start}
use Rattle.nj_edges.proofs.ChainLemmas.{traces-back}
use Rattle.nj_edges.proofs.chains.traced.Goals as goal

pub arrivals-preserved : goal.arrivals-preserved
arrivals-preserved c = record {
  within = omega (
    arith,
    c.requires.earlier c.arrivals.place c.in-Some.arrival c.in-Some.is,
    c.arrivals.invariant.within,
  );
  traces = λ whole traced.
      c.arrivals.invariant.traces whole (
      traces-back c.args.arrivals.now c.arrivals.place c.in-Some.arrival c.arrivals.steps.items
      c.push-in-Some.new.self.items whole c.in-Some.is c.in_ok-push-2.ensures.items traced
      );
}

pub returns : goal.returns
returns c = rw c.reverse.ensures.items (c.arrivals.invariant.traces (reverse c.arrivals.steps.items)
    (start c.in_default.is))
