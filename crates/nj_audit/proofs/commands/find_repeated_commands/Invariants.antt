use Rattle.std.proofs.Common.{◌≡◌, ◌++◌, ℕ, List, length, map}
use Rattle.std.specs.List.{filter, range_with_len}
use Rattle.nj_scope.specs.ReadingList.{ReadStatement}
use Rattle.nj_graph.specs.Graph.{IsGraphOf}
use Rattle.nj_graph.specs.Handles.{edges_in}
use Rattle.nj_audit.specs.Findings.{edge_finding}
use Rattle.nj_audit.specs.declared.kinds.Kind.TheVariants.{RepeatedCommand}
use Rattle.nj_audit.specs.Audit.{commands_before, first_output_at, repeated_commands, repeats_command}
use Rattle.nj_audit.proofs.NameLemmas.{AreNames}
use Rattle.nj_audit.proofs.commands.find_repeated_commands.Given as goal

abbrev pub invariant-edges : goal.invariant-edges
invariant-edges l = record {
  place : ℕ;
  of : l.edge-iterator ≡ edges_in l.graph (range_with_len place (length l.edge-iterator));
  commands : (entries : List ReadStatement) → IsGraphOf l.graph entries
      → AreNames l.commands (commands_before l.graph entries place);
  found : (entries : List ReadStatement) → IsGraphOf l.graph entries
      → l.found ++ map (λ edge. edge_finding l.graph edge RepeatedCommand (first_output_at l.graph edge))
      (filter (repeats_command l.graph entries) (range_with_len place (length l.edge-iterator)))
      ≡ l.fn.found ++ repeated_commands l.graph entries;
}
