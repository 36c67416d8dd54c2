use Rattle.std.proofs.Common.{None, map}
use Rattle.std.specs.Prelude.{slice_index_or}
use Rattle.std.specs.List.{flat_map, range_with_len}
use Rattle.nj_graph.specs.Undeclared.{AreThose, IsUndeclared, input_of_edge, inputs_of_edge, paths_of_output}
use Rattle.nj_graph.specs.Inside.LogSteps.{numbers_if_any}
use Rattle.nj_graph.specs.Inside.UndeclaredFound.{IsFound}
use Rattle.nj_graph.proofs.undeclared.add_edges.Given as goal

abbrev pub invariant-edges : goal.invariant-edges
invariant-edges l = record {
  found : IsFound l.graph l.found;
  undeclared : AreThose (IsUndeclared l.graph.edges)
      (flat_map (λ edge. inputs_of_edge edge
      (paths_of_output l.log (slice_index_or (numbers_if_any l.numbers) edge None)))
      (range_with_len 0 l.edge))
      (map (input_of_edge l.graph.files) l.found.inputs.items);
}
