use Rattle.nj_graph.proofs.LogLaws.{same_log}
use Rattle.nj_graph.proofs.laws.same_log_changes_nothing.Goals as goal

pub returns : goal.returns
returns c = same_log
