use Rattle.std.proofs.Common.{◌≡◌, ◌++◌, List, map}
use Rattle.std.specs.List.{filter}
use Rattle.nj_scope.specs.ReadingList.{ReadStatement}
use Rattle.nj_graph.specs.Graph.{IsGraphOf}
use Rattle.nj_audit.specs.Findings.{edge_finding}
use Rattle.nj_audit.specs.declared.kinds.Kind.TheVariants.{DepfileWithoutDeps}
use Rattle.nj_audit.specs.Audit.{depfiles_without_deps, first_output_at, has_depfile_without_deps}
use Rattle.nj_audit.proofs.HandleLemmas.{AreOf, numbers_of}
use Rattle.nj_audit.proofs.depfiles.find_depfiles_without_deps.Given as goal

abbrev pub invariant-edges : goal.invariant-edges
invariant-edges l = record {
  of : AreOf l.graph l.edge-iterator;
  found : (entries : List ReadStatement) → IsGraphOf l.graph entries
      → l.found ++ map (λ edge. edge_finding l.graph edge DepfileWithoutDeps (first_output_at l.graph edge))
      (filter (has_depfile_without_deps entries) (numbers_of l.edge-iterator))
      ≡ l.fn.found ++ depfiles_without_deps l.graph entries;
}
