use Rattle.std.proofs.Common.{◌≡◌, List, not, option_map}
use Rattle.std.specs.Prelude.{find}
use Rattle.std.specs.List.{AllByRecursion}
use Rattle.nj_scope.specs.ReadingList.{ReadStatement}
use Rattle.nj_graph.specs.Graph.{IsGraphOf}
use Rattle.nj_graph.specs.Handles.{edge_in}
use Rattle.nj_tools.specs.EdgeObjects.{edge_lines, unwritable_edge}
use Rattle.nj_tools.specs.Inside.Outputs.{IsSame, Leaves}
use Rattle.nj_tools.proofs.EdgeObjectLemmas.{lines_left, writable}
use Rattle.nj_tools.proofs.edge_objects.write_lines.Given as goal

abbrev pub invariant-edges : goal.invariant-edges
invariant-edges g l = record {
  same : IsSame l.fn.out l.out;
  all : AllByRecursion (λ edge. edge.graph ≡ l.graph) l.edge-iterator;
  left : (entries : List ReadStatement) → IsGraphOf l.graph entries
      → Leaves g.S.Sink.state l.fn.out l.out (edge_lines entries l.discoveries)
      (lines_left entries l.discoveries l.edge-iterator);
  unwritable : (entries : List ReadStatement) → IsGraphOf l.graph entries
      → find (λ edge. not (writable entries l.discoveries edge)) l.edge-iterator
      ≡ option_map (edge_in l.graph) (unwritable_edge entries l.discoveries);
}
