use Rattle.std.proofs.Common.{◌∷◌, [], map, take, ◌+◌, sym, ap, ◌∙◌, subst}
use Rattle.std.proofs.lemmas.List.{map-append}
use Rattle.serde_json.specs.View.{view}
use Rattle.nj_tests.specs.Tests.{test_model}
use Rattle.nj_test_lists.specs.Meson.{AreMesonTests}
use Rattle.nj_test_lists.proofs.MesonLemmas.{meson_tests-next}
use Rattle.nj_test_lists.proofs.meson_list.read_tests.Goals as goal

pub tests-preserved : goal.tests-preserved
tests-preserved c =
    let values = c.args.values.now in
    let number = c.tests.number in
    let test = c.in_ok-read_test.field-0 in
    subst (λ ts. AreMesonTests c.args.targets.now (take (number + 1) (map view values)) ts)
    (sym (ap (map test_model) c.in_ok-push.ensures.items
    ∙ map-append test_model c.tests.tests.items (test ∷ [])))
    (meson_tests-next c.args.targets.now values number c.index-values-number.result
    (map test_model c.tests.tests.items) (test_model test)
    c.tests-test.true c.index-values-number.is c.tests.invariant c.in_ok-read_test.ensures.test)
