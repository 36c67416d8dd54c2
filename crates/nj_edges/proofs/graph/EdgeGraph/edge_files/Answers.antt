use Rattle.std.proofs.Common.{subst}
use Rattle.nj_edges.specs.Edges.{edge_at}
use Rattle.nj_edges.specs.EdgeGraphs.{EdgeGraph}
use Rattle.nj_edges.specs.Inside.EdgesHeld.{HasFiles}
use Rattle.nj_edges.proofs.graph.EdgeGraph.edge_files.Goals as goal

pub edge-requires-clause-held : goal.edge-requires-clause-held
edge-requires-clause-held c = (c.self.inside.files, c.self.invariant.table.edges_are)

pub returns-clause-files : goal.returns-clause-files
returns-clause-files c =
    let e = c.edge.result in
    subst (λ (t : EdgeGraph). HasFiles t.files (edge_at t.edges c.args.edge.0) e.outputs.now e.inputs.now
    e.validations.now e.kinds e.is_phony) c.self.view_is
    (c.edge.ensures c.self.inside.files c.self.invariant.table.edges_are)
