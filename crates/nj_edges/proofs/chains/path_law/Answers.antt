use Rattle.nj_edges.proofs.ChainOrder.{one-path-is-right}
use Rattle.nj_edges.proofs.chains.path_law.Goals as goal

pub returns : goal.returns
returns c = one-path-is-right
