use Rattle.std.proofs.Common.{◌≡◌, ◌<◌, ◌++◌, All, map, length}
use Rattle.nj_graph.specs.Files.{path_at}
use Rattle.nj_graph.specs.Graph.{edges_of, files_of}
use Rattle.nj_reached.specs.GraphChanges.{outputs_at}
use Rattle.nj_reached.specs.Inside.Handles.{AreOf, numbers_of}
use Rattle.nj_reached.proofs.reached_paths.with_outputs.Given as goal

abbrev pub invariant-edges : goal.invariant-edges
invariant-edges l = record {
  of : AreOf l.graph l.edge-iterator;
  paths : map (path_at (files_of l.graph)) l.all.items
      ++ outputs_at (edges_of l.graph) (numbers_of l.edge-iterator)
      ≡ map (path_at (files_of l.graph)) l.files
      ++ outputs_at (edges_of l.graph) (map (λ edge. edge.0) l.touched);
  known : All (λ file. file.0 < length (files_of l.graph)) l.all.items;
}
