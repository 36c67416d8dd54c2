use Rattle.std.proofs.Common.{◌≡◌, ◌<◌, ◌-◌, ◌∙◌, None, suc, length, slice_get, arith, subst, sym}
use Rattle.std.proofs.lemmas.List.{length-map}
use Rattle.nj_deps.specs.Logs.{numbers_of, output_of}
use Rattle.nj_deps.specs.Inside.OutputsHeld.{OutputsModel, logged}
use Rattle.nj_deps.proofs.OutputLemmas.{found-at, found-none, place-is}
use Rattle.nj_deps.proofs.logged_outputs.OutputTable.index_of.Goals as goal

pub returns-in-0 : goal.returns-in-0
returns-in-0 c =
    let held = c.self.inside in
    let number = c.args.number.0 in
    let within : number < length held.places.items =
    subst (λ (t : OutputsModel). number < t.count) (sym c.self.view_is) c.requires in
    let is = place-is held.outputs.items held.places.items number c.index.result.now within
    c.self.invariant.are_places c.index.ensures in
    subst (λ (t : OutputsModel). output_of t.outputs number ≡ None) c.self.view_is
    (found-none (numbers_of held.inputs.items) held.outputs.items number (sym is ∙ c.in-0.is))

pub returns-in_default : goal.returns-in_default
returns-in_default c =
    let held = c.self.inside in
    let number = c.args.number.0 in
    let place = c.index.result.now in
    let within : number < length held.places.items =
    subst (λ (t : OutputsModel). number < t.count) (sym c.self.view_is) c.requires in
    let is = place-is held.outputs.items held.places.items number place within c.self.invariant.are_places
    c.index.ensures in
    let one : place ≡ suc (place - 1) = omega arith in
    let at = found-at (numbers_of held.inputs.items) held.outputs.items number (place - 1) (sym is ∙ one) in
    let below : place - 1 < length held.outputs.items = at.within in
    subst (λ (t : OutputsModel). (place - 1 < length t.outputs)
    × (slice_get t.outputs (place - 1) ≡ output_of t.outputs number)) c.self.view_is
    (omega (arith, length-map held.outputs.items (logged (numbers_of held.inputs.items))), at.found)
