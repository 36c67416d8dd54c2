use Rattle.nj_times.proofs.OrderLemmas.{are_edges}
use Rattle.nj_times.proofs.order.GraphMakersEdgeInputs.edge_count.Goals as goal

pub returns-clause-known : goal.returns-clause-known
returns-clause-known c = are_edges c.args.self.now.graph.now.edges c.edge_count.ensures.acyclic
