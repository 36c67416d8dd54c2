use Rattle.std.proofs.Common.{◌≡◌, ◌++◌, List}
use Rattle.std.specs.List.{flat_map}
use Rattle.nj_scope.specs.ReadingList.{ReadStatement}
use Rattle.nj_graph.specs.Graph.{IsGraphOf}
use Rattle.nj_audit.specs.Audit.{unused_variables, unused_variables_at}
use Rattle.nj_audit.proofs.HandleLemmas.{AreOf, numbers_of}
use Rattle.nj_audit.proofs.variables.find_unused_variables.Given as goal

abbrev pub invariant-edges : goal.invariant-edges
invariant-edges l = record {
  of : AreOf l.graph l.edge-iterator;
  found : (entries : List ReadStatement) → IsGraphOf l.graph entries
      → l.found ++ flat_map (unused_variables_at l.graph entries) (numbers_of l.edge-iterator)
      ≡ l.fn.found ++ unused_variables l.graph entries;
}
