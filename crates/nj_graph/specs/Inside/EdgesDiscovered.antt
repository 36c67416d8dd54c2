-- What was discovered for the first edges of a run. Nothing here has to be believed.
use Rattle.std.specs.Prelude.{ℕ, ◌<◌, List, codes}
use Rattle.nj_scope.specs.ReadingList.{ReadStatement}
use Rattle.nj_scope.specs.Sources.{SourceState}
use Rattle.nj_deps.specs.Logs.{LogModel}
use Rattle.nj_discovered.specs.Discovered.{IsDiscovered}
use Rattle.nj_discovered.specs.Discoveries.{DiscoveriesModel, discovery_at}
use Rattle.nj_discovered.specs.Times.{DeclaredTimes}
use Rattle.nj_edges.specs.Edges.{edge_at}
use Rattle.nj_statements.specs.EdgeList.{edges_read, paths_of_edges}
use Rattle.nj_graph.specs.Graph.{late_text_of}

abbrev pub AreFirstDiscovered : (before after : SourceState) → DeclaredTimes → LogModel → List ReadStatement → (count : ℕ)
    → DiscoveriesModel → Type 0
AreFirstDiscovered before after times log entries count found =
    (e : ℕ) → e < count
    → IsDiscovered before after times log (edge_at (paths_of_edges (edges_read entries)) e)
    (late_text_of entries e (codes "deps")) (late_text_of entries e (codes "depfile")) (discovery_at found e)
