use Rattle.std.proofs.Common.{◌≡◌}
use Rattle.std.specs.List.{range_with_len}
use Rattle.nj_ask.specs.Inside.Reached.{edge_numbers, AreEdgesOf}
use Rattle.nj_ask.proofs.settled.all_edges.Given as goal

abbrev pub invariant-edges : goal.invariant-edges
invariant-edges l = record {
  all : edge_numbers l.edges.items ≡ range_with_len 0 l.number;
  known : AreEdgesOf l.graph l.edges.items;
}
