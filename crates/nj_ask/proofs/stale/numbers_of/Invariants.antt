use Rattle.std.proofs.Common.{◌≡◌, map, take}
use Rattle.nj_state.specs.declared.commands.StaleEdge.{StaleEdge}
use Rattle.nj_ask.proofs.stale.numbers_of.Given as goal

abbrev pub invariant-edges : goal.invariant-edges
invariant-edges l = l.edges.items ≡ map (λ (item : StaleEdge). item.edge) (take l.item-index l.stale)
