use Rattle.std.proofs.Common.{◌≡◌, ◌<◌, Some, List, [], ◌∷◌, ◌++◌, length, sym, ap, subst, ◌∙◌}
use Rattle.std.proofs.lemmas.Option.{slice_get_within}
use Rattle.nj_scope.specs.Readings.{IsPrefix}
use Rattle.nj_statements.proofs.Tables.{named-prefix, prefix-trans}
use Rattle.nj_graph.specs.declared.origins.HeldOpening.{HeldOpening}
use Rattle.nj_graph.specs.Origins.{OriginsModel, place_text}
use Rattle.nj_graph.specs.Inside.OriginsHeld.{place_held, origins_held}
use Rattle.nj_graph.proofs.OriginLemmas.{name-is, place-grown, below-grown, named-grown, opening-added}
use Rattle.nj_graph.proofs.OriginLemmas.{opening-named}
use Rattle.nj_graph.proofs.origins.Origins.add_opening.Goals as goal

pub invariant_of-self-in_err-push : goal.invariant_of-self-in_err-push
invariant_of-self-in_err-push c =
    let i = c.self.inside in
    let later = c.add.new.self in
    let more : IsPrefix c.keep_place.new.names later =
    subst (λ names. IsPrefix c.keep_place.new.names names) (sym c.in_ok-file.ensures.added)
    (named-prefix c.keep_place.new.names c.as_bytes.result.now) in
    let grows : IsPrefix i.names later = prefix-trans i.names c.keep_place.new.names later
    c.in_ok-place.ensures.grows more in
    rw c.in_err-push.ensures.items (named-grown i.names later grows i.rules.items i.pools.items
    i.openings.items c.self.invariant)

pub invariant_of-self-2 : goal.invariant_of-self-2
invariant_of-self-2 c =
    let i = c.self.inside in
    let later = c.add.new.self in
    let more : IsPrefix c.keep_place.new.names later =
    subst (λ names. IsPrefix c.keep_place.new.names names) (sym c.in_ok-file.ensures.added)
    (named-prefix c.keep_place.new.names c.as_bytes.result.now) in
    let grows : IsPrefix i.names later = prefix-trans i.names c.keep_place.new.names later
    c.in_ok-place.ensures.grows more in
    let p = c.in_ok-place.place in
    let place = place_text c.args.place in
    let held : place_held later p ≡ place =
    place-grown c.keep_place.new.names later more p c.in_ok-place.ensures.known
    ∙ c.in_ok-place.ensures.held in
    let below : p.file < length later = below-grown c.keep_place.new.names later more p.file
    c.in_ok-place.ensures.known in
    let file = c.in_ok-file.file in
    let at = c.in_ok-file.ensures.number ∙ ap Some c.as_bytes.ensures.value in
    let gives = name-is later file c.args.path.now at in
    let there = slice_get_within later file c.args.path.now at in
    rw c.in_ok-push.ensures.items
    (opening-named i.names later grows i.rules.items i.pools.items i.openings.items c.self.invariant p place
    held below file c.args.path.now gives there c.args.scope)

pub returns : goal.returns
returns c =
    let i = c.self.inside in
    let later = c.add.new.self in
    let more : IsPrefix c.keep_place.new.names later =
    subst (λ names. IsPrefix c.keep_place.new.names names) (sym c.in_ok-file.ensures.added)
    (named-prefix c.keep_place.new.names c.as_bytes.result.now) in
    let grows : IsPrefix i.names later = prefix-trans i.names c.keep_place.new.names later
    c.in_ok-place.ensures.grows more in
    let p = c.in_ok-place.place in
    let place = place_text c.args.place in
    let held : place_held later p ≡ place =
    place-grown c.keep_place.new.names later more p c.in_ok-place.ensures.known
    ∙ c.in_ok-place.ensures.held in
    let below : p.file < length later = below-grown c.keep_place.new.names later more p.file
    c.in_ok-place.ensures.known in
    let file = c.in_ok-file.file in
    let at = c.in_ok-file.ensures.number ∙ ap Some c.as_bytes.ensures.value in
    let gives = name-is later file c.args.path.now at in
    let there = slice_get_within later file c.args.path.now at in
    ap (λ (openings : List HeldOpening). origins_held later i.rules.items i.pools.items openings)
    c.in_ok-push.ensures.items
    ∙ opening-added i.names later grows i.rules.items i.pools.items i.openings.items c.self.invariant p place
    held below file c.args.path.now gives there c.args.scope
    ∙ ap (λ (o : OriginsModel). record o {
      openings =
          o.openings ++ record { path = c.args.path.now; named_at = Some place; scope = c.args.scope.0 } ∷ [];
    })
    c.self.view_is
