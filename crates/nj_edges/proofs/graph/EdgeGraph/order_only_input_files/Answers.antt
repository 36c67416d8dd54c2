use Rattle.nj_edges.specs.Edges.{edge_at}
use Rattle.nj_edges.proofs.GraphLemmas.{files-known, order-only-inputs-are}
use Rattle.nj_edges.proofs.graph.EdgeGraph.order_only_input_files.Goals as goal

pub returns-clause-files : goal.returns-clause-files
returns-clause-files c = rw c.after.ensures
    (order-only-inputs-are _ _ _ _ _ _ _ c.edge_files-files.ensures.files)

pub returns-clause-known : goal.returns-clause-known
returns-clause-known c = files-known c.args.self.now.files c.after.result.now
    (edge_at c.args.self.now.edges c.args.edge.0).order_only_inputs (returns-clause-files c)
