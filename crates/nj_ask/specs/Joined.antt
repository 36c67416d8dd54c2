-- What stays the same where the inputs that builds discovered are joined.
use Rattle.std.specs.Prelude.{◌≡◌, ◌<◌, List, All, length}
use Rattle.nj_graph.specs.declared.EdgeNo.{EdgeNo}
use Rattle.nj_graph.specs.Graph.{GraphModel, edges_of, files_of}
use Rattle.nj_scope.specs.Readings.{IsPrefix}
use Rattle.nj_ask.specs.declared.discovered.Discovered.{Discovered}

-- a graph with as many edges, whose files begin with those of the old graph
pub record Follows (old new : GraphModel) : Type 0 where
  pub edges : length (edges_of new) ≡ length (edges_of old)
  pub files : IsPrefix (files_of old) (files_of new)

-- numbers of edges
abbrev pub AreEdgesOf : GraphModel → List EdgeNo → Type 0
AreEdgesOf g edges = All (λ (edge : EdgeNo). edge.0 < length (edges_of g)) edges

-- the doubtful edges are edges of the graph
abbrev pub HasDoubtfulEdges : Discovered → Type 0
HasDoubtfulEdges known = AreEdgesOf known.graph known.doubts.edges.items
