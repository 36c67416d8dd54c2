use Rattle.std.proofs.Common.{◌≡◌, ◌<◌, ◌+◌, ℕ, All, List, map, length}
use Rattle.std.specs.List.{filter_map, range_with_len}
use Rattle.nj_graph.specs.ReadingList.{ReadStatement}
use Rattle.nj_graph.specs.Graph.{edges_of, files_of, IsGraphOf}
use Rattle.nj_graph.specs.Handles.{edges_in}
use Rattle.nj_ask.specs.Shape.{dyndep_of}
use Rattle.nj_ask.proofs.shape.dyndep_files.Given as goal

abbrev pub invariant-edges : goal.invariant-edges
invariant-edges l = record {
  place : ℕ;
  of : l.edge-iterator ≡ edges_in l.graph (range_with_len place (length l.edge-iterator));
  count : place + length l.edge-iterator ≡ length (edges_of l.graph);
  files : (entries : List ReadStatement) → IsGraphOf l.graph entries
      → map (λ file. file.0) l.files.items ≡ filter_map (dyndep_of l.graph entries)
      (range_with_len 0 place);
  known : All (λ file. file.0 < length (files_of l.graph)) l.files.items;
}
