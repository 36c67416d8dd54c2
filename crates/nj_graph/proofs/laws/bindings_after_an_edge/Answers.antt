use Rattle.nj_graph.proofs.LaterBindings.{later_bindings_count, later_bindings_change_no_edge}
use Rattle.nj_graph.proofs.laws.bindings_after_an_edge.Goals as goal

pub returns-clause-count : goal.returns-clause-count
returns-clause-count c = later_bindings_count

pub returns-clause-edges : goal.returns-clause-edges
returns-clause-edges c = later_bindings_change_no_edge
