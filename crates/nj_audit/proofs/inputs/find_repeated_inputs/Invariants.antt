use Rattle.std.proofs.Common.{◌≡◌, ◌++◌}
use Rattle.std.specs.List.{flat_map}
use Rattle.nj_audit.specs.Audit.{repeated_inputs, repeated_inputs_at}
use Rattle.nj_audit.proofs.HandleLemmas.{AreOf, numbers_of}
use Rattle.nj_audit.proofs.inputs.find_repeated_inputs.Given as goal

abbrev pub invariant-edges : goal.invariant-edges
invariant-edges l = record {
  of : AreOf l.graph l.edge-iterator;
  seen : l.seen.graph ≡ l.graph;
  found : l.found ++ flat_map (repeated_inputs_at l.graph) (numbers_of l.edge-iterator)
      ≡ l.fn.found ++ repeated_inputs l.graph;
}
