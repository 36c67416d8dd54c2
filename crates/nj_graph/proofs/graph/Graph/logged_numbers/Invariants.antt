use Rattle.std.proofs.Common.{◌≡◌, List, length}
use Rattle.nj_scope.specs.ReadingList.{ReadStatement}
use Rattle.nj_graph.specs.Graph.{IsGraphOf}
use Rattle.nj_graph.specs.Inside.LogSteps.{AreNumbersLogged, numbers_if_any}
use Rattle.nj_graph.proofs.graph.Graph.logged_numbers.Given as goal

abbrev pub invariant-edges : goal.invariant-edges
invariant-edges l = record {
  count : length l.numbers.items ≡ l.edge;
  numbers : (entries : List ReadStatement) → IsGraphOf l.self entries
      → AreNumbersLogged l.log entries (numbers_if_any l.numbers.items);
}
