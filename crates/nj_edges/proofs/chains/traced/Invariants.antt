use Rattle.std.proofs.Common.{◌<◌, [], ◌∷◌, length, List, reverse}
use Rattle.nj_edges.specs.declared.chains.Step.{Step}
use Rattle.nj_edges.specs.Inside.ChainsHeld.{Traces}
use Rattle.nj_edges.proofs.chains.traced.Given as goal

abbrev pub invariant-arrivals : goal.invariant-arrivals
invariant-arrivals l = record {
  within : l.place < length l.arrivals;
  traces : (whole : List Step) → Traces l.arrivals l.place (reverse l.steps.items) whole
      → Traces l.arrivals l.fn.place (l.fn.last ∷ []) whole;
}

abbrev pub decreases-arrivals : goal.decreases-arrivals
decreases-arrivals l = l.place
