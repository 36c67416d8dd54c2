use Rattle.nj_tools.proofs.SinkLemmas.{IsUnderway-put}
use Rattle.nj_tools.proofs.whole_text.write_whole.Goals as goal

pub puts-preserved : goal.puts-preserved
puts-preserved g c =
    IsUnderway-put _ _ _ _ _ _ c.puts.invariant c.in_ok-count.ensures c.if-count-eq0.false
