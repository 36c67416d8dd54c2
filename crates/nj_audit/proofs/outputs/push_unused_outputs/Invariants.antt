use Rattle.std.proofs.Common.{◌≡◌, ◌++◌, map}
use Rattle.std.specs.List.{filter}
use Rattle.nj_graph.specs.Handles.{edge_of}
use Rattle.nj_audit.specs.Audit.{is_unused_output, unused_outputs_at}
use Rattle.nj_audit.specs.Inside.Handles.{AreIn, finding_at}
use Rattle.nj_audit.specs.declared.kinds.Kind.TheVariants.{UnusedOutput}
use Rattle.nj_audit.proofs.HandleLemmas.{paths_in}
use Rattle.nj_audit.proofs.outputs.push_unused_outputs.Given as goal

abbrev pub invariant-outputs : goal.invariant-outputs
invariant-outputs l =
    let edge = edge_of l.edge in
    record {
      of : AreIn edge.graph l.output-iterator;
      found : l.found ++ map (finding_at edge UnusedOutput)
          (filter (is_unused_output edge.graph) (paths_in l.output-iterator))
          ≡ l.fn.found ++ unused_outputs_at edge.graph edge.number;
    }
