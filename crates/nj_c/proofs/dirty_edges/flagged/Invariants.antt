use Rattle.std.proofs.Common.{◌≡◌, ◌<◌, All}
use Rattle.nj_c.specs.DirtyEdges.{flagged}
use Rattle.nj_c.specs.Inside.PagesHeld.{numbers_of}
use Rattle.nj_c.proofs.dirty_edges.flagged.Given as goal

abbrev pub invariant-edges : goal.invariant-edges
invariant-edges l = record {
  edges : numbers_of l.edges.items ≡ flagged l.flags l.edge;
  below : All (λ e. e.0 < l.count) l.edges.items;
}
