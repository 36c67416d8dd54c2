use Rattle.std.proofs.Common.{◌<◌, length, ap, sym, subst, ◌∙◌}
use Rattle.std.specs.Prelude.{slice_get, option_and_then}
use Rattle.nj_graph.specs.Graph.{main_rules, main_rules_of, description}
use Rattle.nj_graph.proofs.ListedLemmas.{held-at}
use Rattle.nj_graph.proofs.graph.Graph.description.Goals as goal

pub returns : goal.returns
returns c =
    let rules = c.self.inside.declared.declarations.rules in
    let numbers = c.self.inside.declared.main_rules.items in
    let within = subst (λ g. c.args.index < length (main_rules g)) (sym c.self.view_is) c.requires in
    rw (← c.self.view_is)
    (c.description_of.ensures ∙ ap (λ rs. option_and_then description (slice_get rs c.index.result.now))
    c.rules.ensures ∙ ap (λ n. option_and_then description (slice_get rules n)) c.index.ensures
    ∙ ap (option_and_then description) (held-at rules numbers (main_rules_of rules) c.self.invariant.listed
    c.args.index c.index.result.now within))
