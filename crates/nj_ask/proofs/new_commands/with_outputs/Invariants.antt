use Rattle.std.proofs.Common.{◌≡◌, ◌<◌, ◌++◌, All, length, map, take}
use Rattle.nj_graph.specs.Files.{path_at}
use Rattle.nj_graph.specs.Graph.{edges_of, files_of}
use Rattle.nj_reached.specs.GraphChanges.{outputs_at}
use Rattle.nj_ask.specs.Inside.Reached.{edge_numbers}
use Rattle.nj_ask.proofs.new_commands.with_outputs.Given as goal

abbrev pub invariant-edges : goal.invariant-edges
invariant-edges l = record {
  paths : map (path_at (files_of l.graph)) l.all.items
      ≡ map (path_at (files_of l.graph)) l.files
      ++ outputs_at (edges_of l.graph) (edge_numbers (take l.edge-index l.edges));
  known : All (λ file. file.0 < length (files_of l.graph)) l.all.items;
}
