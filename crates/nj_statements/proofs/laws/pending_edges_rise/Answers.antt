use Rattle.nj_statements.proofs.DiscoverEdges.{pending_rise}
use Rattle.nj_statements.proofs.laws.pending_edges_rise.Goals as goal

pub returns : goal.returns
returns c = pending_rise
