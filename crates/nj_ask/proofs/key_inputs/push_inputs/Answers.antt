use Rattle.std.proofs.Common.{◌≡◌, ◌∙◌, [], ap, ap₂, drop, false, length, map, subst}
use Rattle.std.proofs.lemmas.Result.{IfOk-weaker}
use Rattle.nj_names.specs.NameTables.{name_at}
use Rattle.nj_names.specs.NumberSets.{NumberSetModel}
use Rattle.nj_graph.specs.declared.Kind.TheVariants.{Explicit, Implicit, OrderOnly}
use Rattle.nj_ask.specs.KeyObjects.{inputs_among}
use Rattle.nj_ask.specs.LookedThrough.{with_led}
use Rattle.nj_ask.specs.MissingSources.{stated_edge}
use Rattle.nj_ask.specs.Inside.FilesFound.{paths_found}
use Rattle.nj_ask.specs.Inside.JsonTexts.{AddsInputs}
use Rattle.nj_ask.proofs.JsonTextLemmas.{adds-three, if-and-on, three-are}
use Rattle.nj_ask.proofs.StatedLemmas.{paths-are}
use Rattle.nj_ask.proofs.key_inputs.push_inputs.Goals as goal

pub returns-clause-text : goal.returns-clause-text
returns-clause-text c =
    let files = c.args.graph.now.files in
    let edges = c.args.graph.now.edges in
    let limit = c.args.found.now.limit in
    let e = stated_edge edges c.args.stated.now c.args.edge.0 in
    let none = paths_found files c.clear.new.self in
    let explicit = paths_found files c.push_led.new.found in
    let implicit = paths_found files c.push_led-2.new.found in
    let all = paths_found files c.push_led-3.new.found in
    let limit-0 : c.clear.new.self.limit ≡ limit = ap (λ (s : NumberSetModel). s.limit) c.clear.ensures in
    let limit-1 : c.push_led.new.found.limit ≡ limit = c.in_ok-later.ensures.limit ∙ limit-0 in
    let limit-2 : c.push_led-2.new.found.limit ≡ limit = c.in_ok-later-2.ensures.limit ∙ limit-1 in
    let none-is : none ≡ [] = ap (λ (s : NumberSetModel). map (name_at files) s.numbers) c.clear.ensures in
    let explicit-is : explicit ≡ with_led edges limit none e.explicit_inputs = c.in_ok-later.ensures.found
    ∙ ap₂ (λ k ps. with_led edges k none ps) limit-0
    (paths-are files c.explicit_input_files-explicit.result.now e.explicit_inputs
    c.explicit_input_files-explicit.ensures.files) in
    let implicit-is : implicit ≡ with_led edges limit explicit e.implicit_inputs =
    c.in_ok-later-2.ensures.found
    ∙ ap₂ (λ k ps. with_led edges k explicit ps) limit-1 c.stated_inputs-implicit.ensures.paths in
    let order-only-are = ap₂ (λ k ps. with_led edges k implicit ps) limit-2
    (paths-are files c.order_only_input_files-order_only.result.now e.order_only_inputs
    c.order_only_input_files-order_only.ensures.files) in
    IfOk-weaker c.push_led-3.result _ _
    (λ after both. subst (λ inputs. AddsInputs false inputs c.args.text.now.items c.push_led-3.new.text.items
    after)
    (three-are edges limit e none explicit implicit all none-is explicit-is implicit-is
    (both.1 ∙ order-only-are))
    (adds-three (inputs_among edges Explicit (drop (length none) explicit))
    (inputs_among edges Implicit (drop (length explicit) implicit))
    (inputs_among edges OrderOnly (drop (length implicit) all)) c.args.text.now.items
    c.push_led.new.text.items c.push_led-2.new.text.items c.push_led-3.new.text.items false
    c.in_ok-later.later
    c.in_ok-later-2.later after c.in_ok-later.ensures.text c.in_ok-later-2.ensures.text both.0))
    (if-and-on c.push_led-3.result _ _ c.push_led-3.ensures.text c.push_led-3.ensures.found)
