use Rattle.std.proofs.Common.{List}
use Rattle.nj_scope.specs.ReadingList.{ReadStatement}
use Rattle.nj_graph.specs.Graph.{IsGraphOf}
use Rattle.nj_tools.specs.Inside.Outputs.{IsSame, LeavesEach}
use Rattle.nj_tools.specs.Inside.Pieces.{made_lines}
use Rattle.nj_tools.specs.Listings.{outputs_text}
use Rattle.nj_tools.proofs.target_lists.write_all.Given as goal

abbrev pub invariant-edges : goal.invariant-edges
invariant-edges g l = record {
  same : IsSame l.fn.out l.out;
  left : (entries : List ReadStatement) → IsGraphOf l.graph entries
      → LeavesEach g.S.Sink.state (made_lines entries) (λ edge. IsGraphOf edge.graph entries) l.fn.out l.out
      (outputs_text entries) l.edge-iterator;
}
