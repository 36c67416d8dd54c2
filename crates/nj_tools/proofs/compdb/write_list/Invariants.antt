use Rattle.std.proofs.Common.{◌≡◌, Bool, List, option_map}
use Rattle.std.specs.List.{AllByRecursion}
use Rattle.nj_scope.specs.ReadingList.{ReadStatement}
use Rattle.nj_graph.specs.Graph.{IsGraphOf}
use Rattle.nj_graph.specs.Handles.{edge_in}
use Rattle.nj_tools.specs.Compdb.{unheld_edge}
use Rattle.nj_tools.specs.Inside.CompdbHeld.{list_text}
use Rattle.nj_tools.specs.Inside.Outputs.{IsSame, Leaves}
use Rattle.nj_tools.proofs.CompdbLemmas.{list_left, separator_of, unheld_left}
use Rattle.nj_tools.proofs.compdb.write_list.Given as goal

abbrev pub invariant-edges : goal.invariant-edges
invariant-edges g l = record {
  same : IsSame l.fn.out l.out;
  all : AllByRecursion (λ edge. edge.graph ≡ l.graph) l.edge-iterator;
  first : Bool;
  separator : l.separator ≡ separator_of first;
  left : (entries : List ReadStatement) → IsGraphOf l.graph entries
      → Leaves g.S.Sink.state l.fn.out l.out (list_text entries l.directory l.chosen l.expand)
      (list_left entries l.chosen l.expand l.directory first l.edge-iterator);
  unheld : (entries : List ReadStatement) → IsGraphOf l.graph entries
      → unheld_left entries l.chosen l.expand l.directory l.edge-iterator
      ≡ option_map (edge_in l.graph) (unheld_edge entries l.chosen l.expand);
}
