use Rattle.std.proofs.Common.{◌≡◌, ◌+◌, ◌-◌, length, drop}
use Rattle.std.specs.List.{prefix_len}
use Rattle.nj_text.specs.Quotes.{is_plain_byte}
use Rattle.nj_text.proofs.plain_bytes.front_by_lanes.Given as goal

abbrev pub invariant-lanes : goal.invariant-lanes
invariant-lanes l = prefix_len is_plain_byte l.path ≡ l.start + prefix_len is_plain_byte (drop l.start l.path)

abbrev pub decreases-lanes : goal.decreases-lanes
decreases-lanes l = length l.path - l.start
