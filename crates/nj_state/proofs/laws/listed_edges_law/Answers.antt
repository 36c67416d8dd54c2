use Rattle.nj_state.proofs.LawLemmas.{listed_edges}
use Rattle.nj_state.proofs.laws.listed_edges_law.Goals as goal

pub returns : goal.returns
returns c = listed_edges c.order_law.ensures.reached
