use Rattle.nj_statements.proofs.DiscoverEdges.{entries_add}
use Rattle.nj_statements.proofs.DiscoverMakers.{edges_make}
use Rattle.nj_statements.proofs.laws.entries_add_to_their_edges.Goals as goal

pub returns-clause-added : goal.returns-clause-added
returns-clause-added c = entries_add

pub returns-clause-makers : goal.returns-clause-makers
returns-clause-makers c = edges_make
