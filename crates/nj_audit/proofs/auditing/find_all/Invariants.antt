use Rattle.std.proofs.Common.{◌≡◌, ◌++◌, List, drop}
use Rattle.std.specs.List.{flat_map}
use Rattle.nj_scope.specs.ReadingList.{ReadStatement}
use Rattle.nj_graph.specs.Graph.{IsGraphOf}
use Rattle.nj_audit.specs.Kinds.{all_kinds}
use Rattle.nj_audit.specs.Inside.ByKind.{asked_of, findings_of}
use Rattle.nj_audit.proofs.auditing.find_all.Given as goal

abbrev pub invariant-all : goal.invariant-all
invariant-all l =
    (entries : List ReadStatement) → IsGraphOf l.graph entries
    → l.found ++ flat_map (asked_of l.kinds (findings_of l.graph entries l.missing l.serving l.undeclared))
    (drop l.kind-index all_kinds)
    ≡ flat_map (asked_of l.kinds (findings_of l.graph entries l.missing l.serving l.undeclared)) all_kinds
