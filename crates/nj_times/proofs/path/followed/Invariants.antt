use Rattle.std.proofs.Common.{◌<◌, length, map, option_map}
use Rattle.std.specs.Prelude.{All}
use Rattle.nj_times.specs.Inside.CostsHeld.{IsOpen}
use Rattle.nj_times.proofs.path.followed.Given as goal

abbrev pub invariant-turns : goal.invariant-turns
invariant-turns l = record {
  is_open : IsOpen l.graph.edges l.costs l.order l.turn (option_map (λ edge. edge.0) l.fn.last)
      (option_map (λ edge. edge.0) l.next) (map (λ edge. edge.0) l.path.items);
  known : All (λ edge. edge.0 < length l.graph.edges) l.path.items;
}

abbrev pub decreases-turns : goal.decreases-turns
decreases-turns l = l.turn
