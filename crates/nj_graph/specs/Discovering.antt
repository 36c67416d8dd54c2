-- What builds discovered for the edges of a run, as Ninja loads it before a build ("Deps" and "C/C++ header dependencies" in
-- the manual).
use Rattle.std.specs.Prelude.{◌≡◌, ℕ, ◌<◌, List, length, codes}
use Rattle.nj_scope.specs.ReadingList.{ReadStatement}
use Rattle.nj_scope.specs.Sources.{SourceState}
use Rattle.nj_deps.specs.Logs.{LogModel}
use Rattle.nj_discovered.specs.Discovered.{IsDiscovered}
use Rattle.nj_discovered.specs.Discoveries.{DiscoveriesModel, discovery_at}
use Rattle.nj_discovered.specs.Times.{DeclaredTimes}
use Rattle.nj_edges.specs.Edges.{edge_at}
use Rattle.nj_statements.specs.EdgeList.{edges_read, paths_of_edges}
use Rattle.nj_graph.specs.Graph.{late_text_of}

-- for each edge of the statements what it discovers by its values of `deps` and `depfile`, where its rule is used after all
-- statements
pub record AreDiscovered (before after : SourceState) (times : DeclaredTimes) (log : LogModel) (entries : List ReadStatement)
    (found : DiscoveriesModel)
    : Type 0 where
  pub count : length found.edges ≡ length (edges_read entries)
  pub each : (e : ℕ) → e < length (edges_read entries)
      → IsDiscovered before after times log (edge_at (paths_of_edges (edges_read entries)) e)
      (late_text_of entries e (codes "deps")) (late_text_of entries e (codes "depfile")) (discovery_at found e)
