use Rattle.std.proofs.Common.{◌≡◌, drop}
use Rattle.std.specs.Prelude.{fold}
use Rattle.nj_ask.specs.Settled.{later}
use Rattle.nj_ask.proofs.settled.newest_of.Given as goal

abbrev pub invariant-times : goal.invariant-times
invariant-times l = fold later l.newest (drop l.time-index l.times) ≡ fold later 0 l.times
