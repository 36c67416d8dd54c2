use Rattle.std.proofs.Common.{◌≡◌, List, take}
use Rattle.nj_scope.specs.ReadingList.{ReadStatement}
use Rattle.nj_graph.specs.Graph.{IsGraphOf}
use Rattle.nj_c.proofs.DyndepLemmas.{lacking}
use Rattle.nj_c.proofs.wanted_files.lacking_dyndeps.Given as goal

abbrev pub invariant-edges : goal.invariant-edges
invariant-edges l =
    (entries : List ReadStatement) → IsGraphOf l.graph entries
    → l.lacking ≡ lacking l.files (take l.number l.graph.built.assigned)
