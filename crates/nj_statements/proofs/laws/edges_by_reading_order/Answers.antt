use Rattle.nj_scope.proofs.Gathering.{in_reading_order}
use Rattle.nj_statements.specs.EdgeList.{edge_given, edges_read, assigned_given, assigned_read}
use Rattle.nj_statements.proofs.laws.edges_by_reading_order.Goals as goal

pub returns-clause-edges : goal.returns-clause-edges
unfolding edges_read
returns-clause-edges c = in_reading_order edge_given

pub returns-clause-assigned : goal.returns-clause-assigned
unfolding assigned_read
returns-clause-assigned c = in_reading_order assigned_given
