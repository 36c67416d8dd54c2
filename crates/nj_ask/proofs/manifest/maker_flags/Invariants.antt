use Rattle.std.proofs.Common.{length, take}
use Rattle.std.specs.List.{filter_map}
use Rattle.nj_graph.specs.Edges.{maker_of}
use Rattle.nj_graph.specs.Files.{path_at}
use Rattle.nj_graph.specs.Graph.{edges_of, files_of}
use Rattle.nj_ask.specs.Inside.Flags.{AreFlags}
use Rattle.nj_ask.proofs.manifest.maker_flags.Given as goal

abbrev pub invariant-files : goal.invariant-files
invariant-files l =
    AreFlags (length (edges_of l.graph)) (filter_map
    (λ file. maker_of (edges_of l.graph) (path_at (files_of l.graph) file)) (take l.file-index l.files))
    l.flags.items
