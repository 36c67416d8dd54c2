-- The targets of a run.
use Rattle.std.specs.Prelude.{ℕ, Bool, if◌then◌else◌, Result, Ok, List, length}
use Rattle.nj_manifest.specs.LineSteps.{◌>>=◌}
use Rattle.nj_scope.specs.ReadingList.{ReadStatement}
use Rattle.nj_edges.specs.Edges.{EdgePaths}
use Rattle.nj_edges.specs.Needs.{makers_of_inputs}
use Rattle.nj_cycles.specs.Cycles.{IsAcyclic}
use Rattle.nj_statements.specs.Built.{defaults_in_force}
use Rattle.nj_statements.specs.EdgeList.{edges_read, paths_of_edges, defaults_read}
use Rattle.nj_faults.specs.declared.fault.GraphFault.{GraphFault}
use Rattle.nj_graph.specs.Targets.{targets_or}
use Rattle.nj_needs.specs.Growing.{grown_targets}

-- the edges of statements, by their paths
abbrev pub edges_by_path : List ReadStatement → List EdgePaths
edges_by_path entries = paths_of_edges (edges_read entries)

-- no edge needs itself by a chain
abbrev pub NoEdgeNeedsItself : List EdgePaths → Type 0
NoEdgeNeedsItself edges = IsAcyclic (makers_of_inputs edges) (length edges)

-- the targets of a run with the given arguments; with `--validations` the validations of the edges that the targets
-- need come after them
abbrev pub targets_of : List ReadStatement → (validations : Bool) → (words : List (List ℕ)) → Result (List (List ℕ)) GraphFault
targets_of entries validations words = do
  targets ← targets_or (defaults_in_force (defaults_read entries) (edges_by_path entries)) (edges_by_path entries) words
  Ok (if validations then grown_targets (edges_by_path entries) targets else targets)
