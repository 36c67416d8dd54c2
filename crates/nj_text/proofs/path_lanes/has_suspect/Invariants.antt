use Rattle.std.proofs.Common.{◌≡◌, ◌-◌, false, take, length}
use Rattle.nj_text.specs.Inside.Cleaning.{any, suspects}
use Rattle.nj_text.proofs.path_lanes.has_suspect.Given as goal

abbrev pub invariant-lanes : goal.invariant-lanes
invariant-lanes l = any (take l.start (suspects l.text)) ≡ false

abbrev pub decreases-lanes : goal.decreases-lanes
decreases-lanes l = length l.text - l.start
