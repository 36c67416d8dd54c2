use Rattle.std.proofs.Common.{◌≡◌, ◌++◌, map}
use Rattle.nj_graph.specs.Handles.{edge_of}
use Rattle.nj_audit.specs.Audit.{repeated_inputs_at}
use Rattle.nj_audit.specs.Inside.Handles.{AreIn, finding_at}
use Rattle.nj_audit.specs.declared.kinds.Kind.TheVariants.{RepeatedInput}
use Rattle.nj_audit.proofs.HandleLemmas.{paths_in}
use Rattle.nj_audit.proofs.RepeatLemmas.{repeats_in}
use Rattle.nj_audit.proofs.inputs.push_repeated_inputs.Given as goal

abbrev pub invariant-inputs : goal.invariant-inputs
invariant-inputs l =
    let edge = edge_of l.edge in
    record {
      graph : l.seen.graph ≡ edge.graph;
      of : AreIn edge.graph l.input-iterator;
      found : l.found ++ map (finding_at edge RepeatedInput)
          (repeats_in l.seen.paths (paths_in l.input-iterator))
          ≡ l.fn.found ++ repeated_inputs_at edge.graph edge.number;
    }
