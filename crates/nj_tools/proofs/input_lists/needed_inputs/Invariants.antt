use Rattle.std.proofs.Common.{◌≡◌, bytes_eq}
use Rattle.nj_edges.specs.Repeats.{each_once}
use Rattle.nj_graph.specs.Graph.{edges_of}
use Rattle.nj_tools.specs.Inside.Collections.{inputs_of_all, with_paths}
use Rattle.nj_tools.proofs.input_lists.needed_inputs.Given as goal

abbrev pub invariant-edges : goal.invariant-edges
invariant-edges l = record {
  walk : l.edge-iterator.graph ≡ l.graph.built.graph;
  graph : l.inputs.graph ≡ l.graph;
  paths : with_paths l.inputs.paths (inputs_of_all (edges_of l.graph) l.edge-iterator.left)
      ≡ each_once bytes_eq (inputs_of_all (edges_of l.graph) l.fn.needs.left);
}
