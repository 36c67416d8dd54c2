-- The graph of all edges of a run.
use Rattle.std.specs.Prelude.{◌≡◌, ℕ, ◌<◌, Option, None, Some, List, length}
use Rattle.nj_cycles.specs.Cycles.{IsAcyclic, IsLeastOnCycle}
use Rattle.nj_edges.specs.declared.graph.CycleEdge.{CycleEdge}
use Rattle.nj_edges.specs.declared.graph.Finished.{Finished}
use Rattle.nj_edges.specs.declared.graph.Finished.TheVariants.{Graph, Cycle}
use Rattle.nj_edges.specs.Edges.{EdgePaths, edge_at, first_output}
use Rattle.nj_edges.specs.Needs.{makers_of_inputs}

-- the lowest-numbered edge that lies on a cycle itself, with its first output; `None` if the edges have no cycle
abbrev pub IsFirstCycle : List EdgePaths → Option CycleEdge → Type 0
IsFirstCycle edges None = IsAcyclic (makers_of_inputs edges) (length edges)
IsFirstCycle edges (Some c) =
    (c.edge.0 < length edges) × IsLeastOnCycle (makers_of_inputs edges) c.edge.0
    × (first_output (edge_at edges c.edge.0) ≡ Some c.output.items)

-- edges without a cycle form a graph; otherwise the first cycle is the result
abbrev pub FinishesAs : (files : List (List ℕ)) → List EdgePaths → Finished → Type 0
FinishesAs files edges (Graph g) = (g ≡ record { files = files; edges = edges }) × IsFirstCycle edges None
FinishesAs files edges (Cycle c) = IsFirstCycle edges (Some c)
