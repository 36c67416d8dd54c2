use Rattle.std.proofs.Common.{◌∙◌, ℕ, List, ap, length, sym}
use Rattle.std.proofs.lemmas.List.{length-map}
use Rattle.std.proofs.lemmas.List.FromFn.{length-map-range_with_len}
use Rattle.nj_edges.specs.EdgeGraphs.{EdgeGraph}
use Rattle.nj_graph.specs.Built.{detail_at}
use Rattle.nj_graph.specs.Graph.{edges_of, rule_name}
use Rattle.nj_ask.proofs.times.report_by_rule.Goals as goal

pub rule_report-requires-clause-rules : goal.rule_report-requires-clause-rules
rule_report-requires-clause-rules c =
    let g = c.args.graph.now in
    ap length c.deref-2.ensures.value
    ∙ sym (length-map c.in_ok-rules.rules.items (λ rule. rule.now))
    ∙ ap (λ (ns : List (List ℕ)). length ns) c.in_ok-rules.ensures
    ∙ length-map-range_with_len (λ edge. rule_name g.declarations.rules (detail_at g.built.details edge).rule)
    0
    (length (edges_of g))
    ∙ sym (ap (λ (v : EdgeGraph). length v.edges) c.deref.ensures)
