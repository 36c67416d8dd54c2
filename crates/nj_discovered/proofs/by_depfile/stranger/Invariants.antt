use Rattle.std.proofs.Common.{◌≡◌, drop}
use Rattle.std.specs.Prelude.{find, not}
use Rattle.nj_names.specs.NameTables.{is_among}
use Rattle.nj_edges.specs.Edges.{edge_at, outputs_of}
use Rattle.nj_discovered.proofs.by_depfile.stranger.Given as goal

abbrev pub invariant-targets : goal.invariant-targets
invariant-targets l =
    find (λ target. not (is_among (outputs_of (edge_at l.graph.edges l.edge.0)) target))
    (drop 1 l.named.targets)
    ≡ find (λ target. not (is_among (outputs_of (edge_at l.graph.edges l.edge.0)) target))
    (drop l.number l.named.targets)
