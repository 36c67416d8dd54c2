use Rattle.nj_edges.specs.Edges.{edge_at, outputs_of}
use Rattle.nj_edges.proofs.GraphLemmas.{files-known, outputs-are}
use Rattle.nj_edges.proofs.graph.EdgeGraph.outputs.Goals as goal

pub returns-clause-files : goal.returns-clause-files
returns-clause-files c = outputs-are _ _ _ _ _ _ _ c.edge_files.ensures.files

pub returns-clause-known : goal.returns-clause-known
returns-clause-known c = files-known c.args.self.now.files c.edge_files.result.outputs.now
    (outputs_of (edge_at c.args.self.now.edges c.args.edge.0)) (returns-clause-files c)
