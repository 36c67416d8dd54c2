use Rattle.nj_graph.proofs.JoiningPending.{joined_stays_joined}
use Rattle.nj_graph.proofs.laws.joined_dyndeps_stay_joined.Goals as goal

pub returns : goal.returns
returns c = joined_stays_joined
