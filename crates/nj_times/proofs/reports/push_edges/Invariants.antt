use Rattle.std.proofs.Common.{◌≡◌, ◌++◌, map, take}
use Rattle.std.specs.List.{flat_map}
use Rattle.nj_times.specs.Reports.{edge_line}
use Rattle.nj_times.proofs.reports.push_edges.Given as goal

abbrev pub invariant-edges : goal.invariant-edges
invariant-edges l = l.text.items
    ≡ l.fn.text.items ++ flat_map (edge_line l.graph.edges l.durations l.is_json)
    (map (λ edge. edge.0) (take l.edge-index l.edges))
