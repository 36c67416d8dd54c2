use Rattle.std.proofs.Common.{◌≡◌, ◌≢◌, ◌<◌, ◌+◌, ◌-◌, List, suc, length, ap, arith, subst, sym, ◌∙◌}
use Rattle.std.specs.Prelude.{slice_set, slice_index_or}
use Rattle.nj_deps.specs.declared.logged_outputs.HeldOutput.{HeldOutput}
use Rattle.nj_deps.specs.Inside.OutputsHeld.{place_of}
use Rattle.nj_deps.proofs.OutputLemmas.{IsAt, place-is, places-kept, places-new, set-at, set-new}
use Rattle.nj_deps.proofs.logged_outputs.set_output.Goals as goal

pub index_mut-requires : goal.index_mut-requires
index_mut-requires c =
    let outputs = c.args.outputs.now.items in
    let place = c.index.result.now in
    let is : place ≡ place_of outputs c.args.held.output =
    place-is outputs c.args.places.now.items c.args.held.output place c.requires.number c.requires.places
    c.index.ensures in
    let some = c.if-place-gt0.true in
    let at = set-at outputs c.args.held (place - 1) (sym is ∙ (omega arith)) in
    let within : place - 1 < length outputs = at.within in
    omega (arith, c.args.outputs.now.ok.0)

pub returns-then-place-gt0-clause-set : goal.returns-then-place-gt0-clause-set
returns-then-place-gt0-clause-set c =
    let outputs = c.args.outputs.now.items in
    let place = c.index.result.now in
    let is : place ≡ place_of outputs c.args.held.output =
    place-is outputs c.args.places.now.items c.args.held.output place c.requires.number c.requires.places
    c.index.ensures in
    let some = c.if-place-gt0.true in
    sym (set-at outputs c.args.held (place - 1) (sym is ∙ (omega arith))).set

pub returns-then-place-gt0-clause-places : goal.returns-then-place-gt0-clause-places
returns-then-place-gt0-clause-places c number below =
    let outputs = c.args.outputs.now.items in
    let place = c.index.result.now in
    let is : place ≡ place_of outputs c.args.held.output =
    place-is outputs c.args.places.now.items c.args.held.output place c.requires.number c.requires.places
    c.index.ensures in
    let some = c.if-place-gt0.true in
    let there : place_of outputs c.args.held.output ≢ 0 =
    λ none. (let e : place ≡ 0 = is ∙ none in omega arith) in
    let one : place ≡ suc (place - 1) = omega arith in
    let at : IsAt outputs c.args.held (place - 1) = set-at outputs c.args.held (place - 1) (sym is ∙ one) in
    let kept = places-kept outputs c.args.places.now.items c.args.held c.requires.places there number below in
    kept ∙ ap (λ os. place_of os number) at.set

pub returns-clause-set : goal.returns-clause-set
returns-clause-set c =
    let outputs = c.args.outputs.now.items in
    let place = c.index.result.now in
    let is : place ≡ place_of outputs c.args.held.output =
    place-is outputs c.args.places.now.items c.args.held.output place c.requires.number c.requires.places
    c.index.ensures in
    let none = c.if-place-gt0.false in
    c.in_ok-push.ensures.items ∙ sym (set-new outputs c.args.held (sym is ∙ (omega arith)))

pub returns-clause-places : goal.returns-clause-places
returns-clause-places c number below =
    let outputs = c.args.outputs.now.items in
    let places = c.args.places.now.items in
    let held = c.args.held in
    let place = c.index.result.now in
    let is : place ≡ place_of outputs held.output =
    place-is outputs places held.output place c.requires.number c.requires.places c.index.ensures in
    let none = c.if-place-gt0.false in
    let size : c.in_ok-place.place ≡ length outputs + 1 =
    c.in_ok-place.ensures.short ∙ ap (λ (xs : List HeldOutput). length xs + 1) c.as_slice.ensures.value in
    ap (λ k. slice_index_or (slice_set places held.output k) number 0) size
    ∙ places-new outputs places held c.requires.places c.requires.number (sym is ∙ (omega arith)) number
    (subst (λ k. number < length (slice_set places held.output k)) size below)
    ∙ ap (λ os. place_of os number) (sym c.in_ok-push.ensures.items)
