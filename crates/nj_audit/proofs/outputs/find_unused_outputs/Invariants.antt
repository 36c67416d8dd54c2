use Rattle.std.proofs.Common.{◌≡◌, ◌++◌}
use Rattle.std.specs.List.{flat_map}
use Rattle.nj_audit.specs.Audit.{unused_outputs, unused_outputs_at}
use Rattle.nj_audit.proofs.HandleLemmas.{AreOf, numbers_of}
use Rattle.nj_audit.proofs.outputs.find_unused_outputs.Given as goal

abbrev pub invariant-edges : goal.invariant-edges
invariant-edges l = record {
  of : AreOf l.graph l.edge-iterator;
  found : l.found ++ flat_map (unused_outputs_at l.graph) (numbers_of l.edge-iterator)
      ≡ l.fn.found ++ unused_outputs l.graph;
}
