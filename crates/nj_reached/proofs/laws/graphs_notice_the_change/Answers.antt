use Rattle.nj_reached.proofs.LawLemmas.{graphs-notice-the-change}
use Rattle.nj_reached.proofs.laws.graphs_notice_the_change.Goals as goal

pub returns : goal.returns
returns c = graphs-notice-the-change
