use Rattle.std.proofs.Common.{Some, List, [], ◌∷◌, ◌++◌, ap, ◌∙◌}
use Rattle.nj_graph.specs.declared.origins.HeldPlace.{HeldPlace}
use Rattle.nj_graph.specs.Origins.{OriginsModel, place_text}
use Rattle.nj_graph.specs.Inside.OriginsHeld.{origins_held}
use Rattle.nj_graph.proofs.OriginLemmas.{rule-added, rule-named}
use Rattle.nj_graph.proofs.origins.Origins.add_rule.Goals as goal

pub invariant_of-self-2 : goal.invariant_of-self-2
invariant_of-self-2 c =
    let i = c.self.inside in
    rw c.in_ok-push.ensures.items
    (rule-named i.names c.keep_place.new.names c.in_ok-place.ensures.grows i.rules.items i.pools.items
    i.openings.items c.self.invariant c.in_ok-place.place (place_text c.args.place)
    c.in_ok-place.ensures.held c.in_ok-place.ensures.known)

pub returns : goal.returns
returns c =
    let i = c.self.inside in
    ap (λ (rules : List HeldPlace). origins_held c.keep_place.new.names rules i.pools.items i.openings.items)
    c.in_ok-push.ensures.items
    ∙ rule-added i.names c.keep_place.new.names c.in_ok-place.ensures.grows i.rules.items i.pools.items
    i.openings.items c.self.invariant c.in_ok-place.place (place_text c.args.place) c.in_ok-place.ensures.held
    c.in_ok-place.ensures.known
    ∙ ap (λ (o : OriginsModel). record o { rules = o.rules ++ Some (place_text c.args.place) ∷ [] })
    c.self.view_is
