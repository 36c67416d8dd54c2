use Rattle.std.proofs.Common.{◌<◌, length, ap, sym, subst, ◌∙◌}
use Rattle.nj_graph.specs.Graph.{main_rules, main_rules_of, rule_name}
use Rattle.nj_graph.proofs.ListedLemmas.{held-at, name_of}
use Rattle.nj_graph.proofs.graph.Graph.main_rule.Goals as goal

pub returns : goal.returns
returns c =
    let rules = c.self.inside.declared.declarations.rules in
    let numbers = c.self.inside.declared.main_rules.items in
    let within = subst (λ g. c.args.index < length (main_rules g)) (sym c.self.view_is) c.requires in
    rw (← c.self.view_is)
    (c.rule_name.ensures ∙ ap (λ rs. rule_name rs c.index.result.now) c.rules.ensures
    ∙ ap (rule_name rules) c.index.ensures
    ∙ ap name_of (held-at rules numbers (main_rules_of rules) c.self.invariant.listed c.args.index
    c.index.result.now within))
