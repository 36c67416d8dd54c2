use Rattle.std.proofs.Common.{◌≡◌, ◌++◌, ℕ, List}
use Rattle.nj_edges.specs.Inside.ChangesHeld.{FindsMore}
use Rattle.nj_graph.specs.Edges.{inputs_of}
use Rattle.nj_graph.specs.Graph.{edges_of}
use Rattle.nj_graph.specs.Handles.{edge_of, paths_of}
use Rattle.nj_audit.specs.Inside.Handles.{AreIn}
use Rattle.nj_audit.specs.Inside.Served.{AreFound, MakesOneOf}
use Rattle.nj_audit.proofs.HandleLemmas.{paths_in}
use Rattle.nj_audit.proofs.serving.add_makers.Given as goal

abbrev pub invariant-inputs : goal.invariant-inputs
invariant-inputs l =
    let edge = edge_of l.edge in
    record {
      of : AreIn edge.graph l.input-iterator;
      done : List (List ℕ);
      whole : done ++ paths_in l.input-iterator ≡ inputs_of (paths_of edge);
      are : AreFound edge.graph l.found;
      finds : FindsMore (MakesOneOf (edges_of edge.graph) done) l.fn.found.set l.found.set;
    }
