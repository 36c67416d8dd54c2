use Rattle.std.proofs.Common.{◌≡◌, ◌<◌, All, length, map, take}
use Rattle.std.specs.List.{flat_map}
use Rattle.nj_graph.specs.Edges.{edge_at, inputs_of}
use Rattle.nj_graph.specs.Files.{path_at}
use Rattle.nj_graph.specs.Graph.{edges_of, files_of}
use Rattle.nj_ask.proofs.manifest.inputs_of_all.Given as goal

abbrev pub invariant-edges : goal.invariant-edges
invariant-edges l = record {
  paths : map (path_at (files_of l.graph)) l.files.items
      ≡ flat_map (λ edge. inputs_of (edge_at (edges_of l.graph) edge.0)) (take l.edge-index l.edges);
  known : All (λ file. file.0 < length (files_of l.graph)) l.files.items;
}
