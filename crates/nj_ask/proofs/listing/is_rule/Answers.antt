use Rattle.std.proofs.Common.{bytes_eq, map, rules, tests, ap, ◌∙◌}
use Rattle.std.proofs.lemmas.Iterator.{YieldsList-from_slice}
use Rattle.std.proofs.lemmas.Iterator.Search.{any_from_yields_List}
use Rattle.nj_graph.specs.Edges.{is_among}
use Rattle.nj_ask.proofs.FlagLemmas.{any-map}
use Rattle.nj_ask.proofs.listing.is_rule.Goals as goal

pub returns : goal.returns
returns c =
    let name = c.args.name.now in
    any_from_yields_List (λ rule. bytes_eq name rule.name) _ _ _ c.any.ensures.ran
    (YieldsList-from_slice c.rules.result.now cc) (λ x b q k. search (rules, tests))
    ∙ any-map (bytes_eq name) (λ rule. rule.name) c.rules.result.now
    ∙ ap (λ all. is_among (map (λ rule. rule.name) all) name) c.rules.ensures.held
