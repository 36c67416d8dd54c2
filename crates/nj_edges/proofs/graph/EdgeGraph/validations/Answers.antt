use Rattle.nj_edges.specs.Edges.{edge_at}
use Rattle.nj_edges.proofs.GraphLemmas.{files-known, validations-are}
use Rattle.nj_edges.proofs.graph.EdgeGraph.validations.Goals as goal

pub returns-clause-files : goal.returns-clause-files
returns-clause-files c = validations-are _ _ _ _ _ _ _ c.edge_files.ensures.files

pub returns-clause-known : goal.returns-clause-known
returns-clause-known c = files-known c.args.self.now.files c.edge_files.result.validations.now
    (edge_at c.args.self.now.edges c.args.edge.0).validations (returns-clause-files c)
