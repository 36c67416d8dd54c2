use Rattle.std.proofs.Common.{length}
use Rattle.nj_graph.specs.Handles.{GraphEdge}
use Rattle.nj_keys.specs.Inside.Keeping.{IsMissing, MakesOne}
use Rattle.nj_keys.proofs.keys.missing_maker.Given as goal

abbrev pub invariant-files : goal.invariant-files
invariant-files l = record {
  left : (edge : GraphEdge) → MakesOne l.fn.files edge → IsMissing l.keys edge.number
      → MakesOne l.files edge;
  fewer : (edge : GraphEdge) → MakesOne l.files edge → MakesOne l.fn.files edge;
}

abbrev pub decreases-files : goal.decreases-files
decreases-files l = length l.files
