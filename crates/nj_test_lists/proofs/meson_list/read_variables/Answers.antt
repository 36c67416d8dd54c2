use Rattle.std.proofs.Common.{◌++◌, ◌∷◌, [], codes, map, string_bytes, sym, ap, ◌∙◌, subst}
use Rattle.std.proofs.lemmas.List.{map-append}
use Rattle.serde_json.specs.View.{members_view}
use Rattle.serde_json.proofs.Views.{Entry}
use Rattle.nj_test_lists.specs.Meson.{assignments}
use Rattle.nj_test_lists.proofs.ListLemmas.{Stands}
use Rattle.nj_test_lists.proofs.MesonLemmas.{variables-next}
use Rattle.nj_test_lists.proofs.meson_list.read_variables.Goals as goal

pub variables-preserved : goal.variables-preserved
variables-preserved c =
    let whole = assignments (members_view c.args.variables.now.entries) in
    let rest = c.next.new.self in
    let entry : Entry = (c.in-Some.name.now, c.in-Some.value.now) in
    let text = c.in-Some-as_str.text.now in
    let new = c.in_ok-assignment-in-Some-as_str.field-0 in
    let items = c.variables.assignments.items in
    let named = c.in_ok-assignment-in-Some-as_str.ensures
    ∙ ap (λ n. n ++ codes "=" ++ text) c.as_str-in-Some-as_str.ensures.value in
    subst (λ l. Stands whole l (assignments (members_view rest)))
    (sym (ap (map string_bytes) c.in_ok-push-in-Some-as_str.ensures.items
    ∙ map-append string_bytes items (new ∷ [])))
    (variables-next whole (map string_bytes items) c.variables.name-iterator rest entry text
    (string_bytes new)
    c.variables.invariant c.in-Some.ensures.steps (sym c.in-Some-as_str.ensures) named)
