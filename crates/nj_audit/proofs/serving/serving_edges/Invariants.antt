use Rattle.std.proofs.Common.{◌-◌, length}
use Rattle.nj_graph.specs.Graph.{edges_of}
use Rattle.nj_audit.specs.Inside.Served.{AreFound, FindsServing}
use Rattle.nj_audit.proofs.serving.serving_edges.Given as goal

abbrev pub invariant-edges : goal.invariant-edges
invariant-edges l = record {
  are : AreFound l.graph l.found;
  finds : FindsServing (edges_of l.graph) l.found.set l.place;
}

abbrev pub decreases-edges : goal.decreases-edges
decreases-edges l = length (edges_of l.graph) - l.place
