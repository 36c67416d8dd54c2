use Rattle.nj_edges.proofs.ChangeLemmas.{finds-one}
use Rattle.nj_edges.proofs.search_state.add.Goals as goal

pub returns : goal.returns
returns c = rw c.in_ok-insert.ensures.added (finds-one c.args.found.now c.args.edge.0)
