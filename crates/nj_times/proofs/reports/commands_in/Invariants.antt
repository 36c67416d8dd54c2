use Rattle.std.proofs.Common.{◌≡◌, ◌<◌, length, map, take}
use Rattle.std.specs.Prelude.{All}
use Rattle.nj_times.specs.Reports.{commands_in}
use Rattle.nj_times.proofs.reports.commands_in.Given as goal

abbrev pub invariant-edges : goal.invariant-edges
invariant-edges l = record {
  commands : map (λ edge. edge.0) l.commands.items
      ≡ commands_in l.graph.edges (map (λ edge. edge.0) (take l.edge-index l.edges));
  known : All (λ edge. edge.0 < length l.graph.edges) l.commands.items;
}
