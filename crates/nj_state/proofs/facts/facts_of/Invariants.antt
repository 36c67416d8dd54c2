use Rattle.std.proofs.Common.{◌≡◌, List, length, map}
use Rattle.std.specs.List.{range_with_len}
use Rattle.nj_graph.specs.Graph.{IsGraphOf}
use Rattle.nj_graph.specs.ReadingList.{ReadStatement}
use Rattle.nj_state.specs.Facts.{edge_facts}
use Rattle.nj_state.proofs.facts.facts_of.Given as goal

abbrev pub invariant-edges : goal.invariant-edges
invariant-edges l = record {
  count : length l.facts.items ≡ l.number;
  facts : (entries : List ReadStatement) → IsGraphOf l.graph entries → l.facts.items
      ≡ map (edge_facts entries (map (λ edge. edge.0) l.unknown) l.version) (range_with_len 0 l.number);
}
