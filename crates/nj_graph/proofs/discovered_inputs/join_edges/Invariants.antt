use Rattle.std.proofs.Common.{◌≡◌, drop, length}
use Rattle.nj_graph.specs.Inside.InputSteps.{AreFilesOf, inputs_found, joined_edges}
use Rattle.nj_graph.proofs.discovered_inputs.join_edges.Given as goal

-- the rest has the same result
abbrev pub invariant-edges : goal.invariant-edges
invariant-edges l = record {
  joins : joined_edges (drop l.edge (inputs_found l.found)) l.joining
      ≡ joined_edges (inputs_found l.found) l.fn.joining;
  edge : l.joining.edge ≡ l.edge;
  stated : length l.joining.table.stated ≡ length l.fn.joining.table.stated;
  files : AreFilesOf l.found.names l.joining.table.files l.files.items;
}
