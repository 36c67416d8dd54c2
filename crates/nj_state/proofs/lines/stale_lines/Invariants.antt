use Rattle.std.proofs.Common.{◌≡◌, take}
use Rattle.std.specs.List.{flat_map}
use Rattle.nj_state.specs.StaleLines.{stale_line}
use Rattle.nj_state.proofs.lines.stale_lines.Given as goal

abbrev pub invariant-edges : goal.invariant-edges
invariant-edges l = l.text.items ≡ flat_map (stale_line l.why l.graph.edges) (take l.item-index l.stale)
