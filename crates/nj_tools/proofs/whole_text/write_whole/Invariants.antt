use Rattle.std.proofs.Common.{length}
use Rattle.nj_tools.specs.Inside.Blocks.{IsUnderway}
use Rattle.nj_tools.proofs.whole_text.write_whole.Given as goal

abbrev pub invariant-puts : goal.invariant-puts
invariant-puts g l = IsUnderway (g.S.Sink.state l.initial.sink) (g.S.Sink.state l.sink) l.text l.rest

abbrev pub decreases-puts : goal.decreases-puts
decreases-puts g l = length l.rest
