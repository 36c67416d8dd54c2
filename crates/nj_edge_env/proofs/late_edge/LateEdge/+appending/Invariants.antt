use Rattle.std.proofs.Common.{◌+◌, ◌*◌, take}
use Rattle.nj_edge_env.specs.Inside.StringsHeld.{AppendsParts}
use Rattle.nj_edge_env.proofs.late_edge.LateEdge.+appending.Given as goal

abbrev pub decreases-append_within : goal.decreases-append_within
decreases-append_within l = 3 * l.depth + 2

abbrev pub decreases-append_parts : goal.decreases-append_parts
decreases-append_parts l = 3 * l.depth + 1

abbrev pub decreases-append_below : goal.decreases-append_below
decreases-append_below l = 3 * l.depth

abbrev pub invariant-append_parts-parts : goal.invariant-append_parts-parts
invariant-append_parts-parts l = AppendsParts l.quoting l.self l.depth (take l.index l.value) l.fn.out.items
    l.known l.out.items l.height
