use Rattle.std.proofs.Common.{◌≡◌, ℕ, List, bytes_eq}
use Rattle.nj_edges.specs.Repeats.{each_once}
use Rattle.nj_graph.specs.Graph.{edges_of}
use Rattle.nj_tools.specs.Inside.Collections.{HasExactly, inputs_of_all, new_paths}
use Rattle.nj_tools.specs.Inside.Outputs.{IsSame, Leaves}
use Rattle.nj_tools.specs.Inside.Pieces.{printed_text}
use Rattle.nj_tools.proofs.input_lists.write_as_needed.Given as goal

abbrev pub invariant-edges : goal.invariant-edges
invariant-edges g l = record {
  walk : l.edge-iterator.graph ≡ l.graph.built.graph;
  graph : l.written.graph ≡ l.graph;
  same : IsSame l.fn.out l.out;
  earlier : List (List ℕ);
  has : HasExactly l.written earlier;
  left : Leaves g.S.Sink.state l.fn.out l.out
      (printed_text l.style (each_once bytes_eq (inputs_of_all (edges_of l.graph) l.fn.needs.left)))
      (printed_text l.style (new_paths earlier (inputs_of_all (edges_of l.graph) l.edge-iterator.left)));
}
