use Rattle.std.proofs.Common.{◌≡◌, ◌+◌, ◌-◌, ◌≤◌, length, drop}
use Rattle.std.specs.List.{prefix_len}
use Rattle.nj_text.specs.Inside.Runs.{in_run, lane_run}
use Rattle.nj_text.proofs.runs.length_by_lanes.Given as goal

abbrev pub invariant-lanes : goal.invariant-lanes
invariant-lanes l = (prefix_len (in_run (lane_run l.run)) l.bytes
    ≡ l.passed + prefix_len (in_run (lane_run l.run)) (drop l.passed l.bytes)) × (l.passed ≤ length l.bytes)

abbrev pub decreases-lanes : goal.decreases-lanes
decreases-lanes l = length l.bytes - l.passed
