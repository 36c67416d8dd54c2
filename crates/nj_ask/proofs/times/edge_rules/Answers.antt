use Rattle.std.proofs.Common.{◌++◌, ◌∙◌, [], ◌∷◌, ℕ, List, ap, arith, map, sym, Bor}
use Rattle.std.proofs.lemmas.List.{map-append}
use Rattle.std.specs.List.{range_with_len}
use Rattle.std.proofs.lemmas.List.FromFn.{map-range_with_len_more}
use Rattle.nj_graph.specs.Built.{detail_at}
use Rattle.nj_graph.specs.Graph.{rule_name}
use Rattle.nj_ask.proofs.times.edge_rules.Goals as goal

pub edges-preserved : goal.edges-preserved
edges-preserved c =
    let g = c.args.graph.now in
    let rule_of : ℕ → List ℕ = λ edge. rule_name g.declarations.rules (detail_at g.built.details edge).rule in
    ap (map (λ (rule : Bor (List ℕ)). rule.now)) c.in_ok-push.ensures.items
    ∙ map-append (λ (rule : Bor (List ℕ)). rule.now) c.edges.rules.items (c.rule_name.result ∷ [])
    ∙ ap (λ (ns : List (List ℕ)). ns ++ c.rule_name.result.now ∷ []) c.edges.invariant
    ∙ ap (λ (n : List ℕ). map rule_of (range_with_len 0 c.edges.number) ++ n ∷ []) c.rule_name.ensures.held
    ∙ sym (map-range_with_len_more rule_of 0 c.edges.number c.edges.number (omega arith))
