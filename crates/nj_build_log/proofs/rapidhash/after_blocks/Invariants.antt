use Rattle.std.proofs.Common.{◌≡◌}
use Rattle.nj_build_log.specs.Rapid.{states_after}
use Rattle.nj_build_log.proofs.rapidhash.after_blocks.Given as goal

abbrev pub invariant-turns : goal.invariant-turns
invariant-turns l = l.states ≡ states_after l.text l.state l.block
