use Rattle.std.proofs.Common.{◌≡◌, List, length}
use Rattle.nj_scope.specs.ReadingList.{ReadStatement}
use Rattle.nj_discovered.specs.Discovered.{IsLater}
use Rattle.nj_graph.specs.Graph.{IsGraphOf}
use Rattle.nj_graph.specs.Inside.EdgesDiscovered.{AreFirstDiscovered}
use Rattle.nj_graph.proofs.graph.Graph.discover.Given as goal

abbrev pub invariant-edges : goal.invariant-edges
invariant-edges g l = record {
  later : IsLater (g.S.FileSource.state l.fn.files) (g.S.FileSource.state l.files);
  edges : l.finder.edges ≡ l.self.built.graph.edges;
  log : l.finder.log ≡ l.log;
  count : length l.finder.found.edges ≡ l.number;
  found : (entries : List ReadStatement) → IsGraphOf l.self entries
      → AreFirstDiscovered (g.S.FileSource.state l.fn.files) (g.S.FileSource.state l.files)
      (g.T.FileTimes.times l.times) l.log entries l.number l.finder.found;
}
