use Rattle.nj_edges.specs.Inside.EdgesHeld.{lists_of}
use Rattle.nj_edges.proofs.GraphLemmas.{rows-known}
use Rattle.nj_edges.proofs.input_makers.InputMakersEdgeInputs.edge_count.Goals as goal

pub returns-clause-known : goal.returns-clause-known
returns-clause-known c = rows-known (lists_of c.args.self.now.lists.now) c.args.self.now.makers_known
