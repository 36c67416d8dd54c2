use Rattle.std.proofs.Common.{List, [], ◌∷◌, ◌++◌, ap, ◌∙◌}
use Rattle.nj_graph.specs.declared.origins.HeldPool.{HeldPool}
use Rattle.nj_graph.specs.Origins.{OriginsModel, place_text}
use Rattle.nj_graph.specs.Inside.OriginsHeld.{origins_held}
use Rattle.nj_graph.proofs.OriginLemmas.{pool-added, pool-named}
use Rattle.nj_graph.proofs.origins.Origins.add_pool.Goals as goal

pub invariant_of-self-2 : goal.invariant_of-self-2
invariant_of-self-2 c =
    let i = c.self.inside in
    rw c.in_ok-push.ensures.items
    (pool-named i.names c.keep_place.new.names c.in_ok-place.ensures.grows i.rules.items i.pools.items
    i.openings.items c.self.invariant c.in_ok-place.place (place_text c.args.place)
    c.in_ok-place.ensures.held c.in_ok-place.ensures.known c.args.depth)

pub returns : goal.returns
returns c =
    let i = c.self.inside in
    ap (λ (pools : List HeldPool). origins_held c.keep_place.new.names i.rules.items pools i.openings.items)
    c.in_ok-push.ensures.items
    ∙ pool-added i.names c.keep_place.new.names c.in_ok-place.ensures.grows i.rules.items i.pools.items
    i.openings.items c.self.invariant c.in_ok-place.place (place_text c.args.place) c.in_ok-place.ensures.held
    c.in_ok-place.ensures.known c.args.depth
    ∙ ap (λ (o : OriginsModel). record o {
      pools =
          o.pools ++ record { place = place_text c.args.place; depth = c.args.depth } ∷ [];
    }) c.self.view_is
