use Rattle.nj_edges.proofs.NamedLemmas.{graph-files}
use Rattle.nj_edges.proofs.graph.EdgeGraph.file_count.Goals as goal

pub returns-clause-named : goal.returns-clause-named
returns-clause-named c = graph-files _ _ c.self.invariant.table c.self.invariant.closed
    c.args.self.now c.self.view_is
