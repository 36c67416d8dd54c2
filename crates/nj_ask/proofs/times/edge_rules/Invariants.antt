use Rattle.std.proofs.Common.{◌≡◌, map}
use Rattle.std.specs.List.{range_with_len}
use Rattle.nj_graph.specs.Built.{detail_at}
use Rattle.nj_graph.specs.Graph.{rule_name}
use Rattle.nj_ask.proofs.times.edge_rules.Given as goal

abbrev pub invariant-edges : goal.invariant-edges
invariant-edges l = map (λ rule. rule.now) l.rules.items
    ≡ map (λ edge. rule_name l.graph.declarations.rules (detail_at l.graph.built.details edge).rule)
    (range_with_len 0 l.number)
