use Rattle.std.proofs.Common.{ℕ, Bool, List, map, take_all, ap, ◌∙◌, arith}
use Rattle.nj_edge_env.specs.ReferencesHeld.{refers_unbound}
use Rattle.nj_edge_env.proofs.key_references.referring_key.Goals as goal

pub returns : goal.returns
returns c =
    let names = c.args.names.now in
    let row : List Bool = map (λ other. refers_unbound c.args.rule.now.lines c.args.name.now other.now) names
    in
    ap (λ (refers : List Bool). record { name = c.in_ok-name.name.items; refers = refers })
    (c.names.invariant ∙ ap (map (λ other. refers_unbound c.args.rule.now.lines c.args.name.now
    other.now)) (take_all c.names.other-index names (omega arith)))
    ∙ ap (λ (name : List ℕ). record { name = name; refers = row }) c.in_ok-name.ensures.items
