use Rattle.std.proofs.Common.{◌≡◌, ◌<◌, Some, drop}
use Rattle.nj_edges.specs.declared.edges.EdgeNo.{EdgeNo}
use Rattle.nj_needs.specs.Counts.{saturated}
use Rattle.nj_needs.specs.Graphs.{makers_of, count_of, row_of}
use Rattle.nj_needs.specs.Inside.Tops.{row_in}
use Rattle.nj_needs.specs.Marks.{is_valid}
use Rattle.nj_needs.proofs.resuming.leads.Given as goal

abbrev pub invariant-steps : goal.invariant-steps
invariant-steps l = record {
  edge_in : (e : EdgeNo) → l.edge ≡ Some e → e.0 < count_of l.fn.turns.graph.now;
  rest : is_valid (makers_of l.fn.turns.graph.now) (row_in l.fn.turns.graph.now l.fn.turns.targets.now l.edge)
      (drop l.number-index l.numbers)
      ≡ is_valid (makers_of l.fn.turns.graph.now) (row_of l.fn.turns.graph.now l.fn.turns.targets.now)
      l.numbers;
  turns : l.turns.taken ≡ saturated l.number-index;
  graph : l.turns.graph ≡ l.fn.turns.graph;
  targets : l.turns.targets ≡ l.fn.turns.targets;
}
