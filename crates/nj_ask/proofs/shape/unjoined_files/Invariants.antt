use Rattle.std.proofs.Common.{◌≡◌, ◌<◌, All, List, map, length, take}
use Rattle.std.specs.List.{filter_map}
use Rattle.nj_graph.specs.ReadingList.{ReadStatement}
use Rattle.nj_graph.specs.Graph.{files_of, IsGraphOf}
use Rattle.nj_ask.specs.Shape.{dyndep_of}
use Rattle.nj_ask.proofs.shape.unjoined_files.Given as goal

abbrev pub invariant-pending : goal.invariant-pending
invariant-pending l = record {
  files : (entries : List ReadStatement) → IsGraphOf l.graph entries
      → map (λ file. file.0) l.files.items ≡ filter_map (λ p. dyndep_of l.graph entries p.edge)
      (take l.index l.graph.built.pending);
  known : All (λ file. file.0 < length (files_of l.graph)) l.files.items;
}
