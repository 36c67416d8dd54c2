use Rattle.std.proofs.Common.{◌≡◌, List}
use Rattle.nj_scope.specs.ReadingList.{ReadStatement}
use Rattle.nj_graph.specs.Graph.{IsGraphOf}
use Rattle.nj_c.specs.DiscoveredInputs.{lacking_depfiles}
use Rattle.nj_c.proofs.lacking_depfiles.lacking_names.Given as goal

abbrev pub invariant-edges : goal.invariant-edges
invariant-edges l =
    (stated : List ReadStatement) → IsGraphOf l.graph stated
    → l.lacking ≡ lacking_depfiles l.files stated l.number
