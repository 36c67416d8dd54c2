use Rattle.nj_edges.specs.Edges.{edge_at}
use Rattle.nj_edges.proofs.ChainLemmas.{all-of-kinds, counted-of-kinds}
use Rattle.nj_edges.proofs.GraphLemmas.{counted-are, inputs-are}
use Rattle.nj_edges.proofs.graph.EdgeGraph.inputs_of_kinds.Goals as goal

pub returns-then-kinds-clause-files : goal.returns-then-kinds-clause-files
returns-then-kinds-clause-files c =
    all-of-kinds c.args.kinds c.args.self.now.files c.edge_files-files.result.inputs.now
    (edge_at c.args.self.now.edges c.args.edge.0)
    (inputs-are _ _ _ _ _ _ _ c.edge_files-files.ensures.files) c.if-kinds.true

pub returns-clause-files : goal.returns-clause-files
returns-clause-files c =
    counted-of-kinds c.args.kinds c.args.self.now.files c.first.result.now
    (edge_at c.args.self.now.edges c.args.edge.0)
    (rw c.first.ensures (counted-are _ _ _ _ _ _ _ c.edge_files-files.ensures.files)) c.if-kinds.false
