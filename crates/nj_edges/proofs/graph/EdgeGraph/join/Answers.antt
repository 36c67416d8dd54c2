use Rattle.nj_edges.proofs.JoiningLemmas.{start-held, start-table}
use Rattle.nj_edges.proofs.graph.EdgeGraph.join.Goals as goal

pub invariant_of-result : goal.invariant_of-result
invariant_of-result c = rw (c.in_ok-added.ensures, c.into_edges.ensures)
    (start-held c.args.self _ c.edge_count.ensures.count)

pub returns : goal.returns
returns c = rw (c.in_ok-added.ensures, c.into_edges.ensures)
    (start-table c.args.self _ c.edge_count.ensures.count)
