use Rattle.std.proofs.Common.{◌≡◌, drop, length}
use Rattle.nj_graph.specs.Inside.InputSteps.{joined_edges}
use Rattle.nj_graph.specs.Inside.LogSteps.{inputs_by_numbers, numbers_if_any}
use Rattle.nj_graph.proofs.deps_logs.join_edges.Given as goal

-- the rest has the same result
abbrev pub invariant-numbers : goal.invariant-numbers
invariant-numbers l = record {
  joins : joined_edges (drop l.number-index (inputs_by_numbers l.log (numbers_if_any l.numbers))) l.joining
      ≡ joined_edges (inputs_by_numbers l.log (numbers_if_any l.numbers)) l.fn.joining;
  edge : l.joining.edge ≡ l.number-index;
  stated : length l.joining.table.stated ≡ length l.fn.joining.table.stated;
}
