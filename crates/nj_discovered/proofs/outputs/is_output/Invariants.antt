use Rattle.std.proofs.Common.{◌≡◌, drop, map}
use Rattle.nj_names.specs.Files.{path_at}
use Rattle.nj_names.specs.NameTables.{is_among}
use Rattle.nj_edges.specs.Edges.{edge_at, outputs_of}
use Rattle.nj_discovered.proofs.outputs.is_output.Given as goal

-- the path is not among the outputs before
abbrev pub invariant-outputs : goal.invariant-outputs
invariant-outputs l =
    is_among (outputs_of (edge_at l.graph.edges l.fn.edge.0)) l.path
    ≡ is_among (map (path_at l.graph.files) (drop l.output-index l.output-items)) l.path
