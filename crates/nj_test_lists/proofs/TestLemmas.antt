-- Lemmas on the tests of a list by CTest.
use Rattle.std.proofs.Common.{◌≡◌, ℕ, ◌+◌, ◌<◌, List, [], ◌∷◌, ◌++◌, map, take, length, get_or, sym, ap, ◌∙◌}
use Rattle.std.proofs.Common.{subst}
use Rattle.std.proofs.lemmas.List.{take_more, get_or-map, length-map}
use Rattle.serde_json.specs.Data.{Data}
use Rattle.serde_json.specs.View.{view}
use Rattle.serde_json.specs.declared.value.Value.{Value}
use Rattle.nj_tests.specs.Tests.{TestModel}
use Rattle.nj_test_lists.specs.CTest.{IsCTest, AreCTests}

are-more : (values : List Data) (tests : List TestModel) (value : Data) (test : TestModel)
    → AreCTests values tests
    → IsCTest value test → AreCTests (values ++ value ∷ []) (tests ++ test ∷ [])
are-more [] [] value test are is = (is, tt)
are-more [] (t ∷ tests) value test are is = absurd are
are-more (v ∷ values) [] value test are is = absurd are
are-more (v ∷ values) (t ∷ tests) value test (first, are) is =
    (first, are-more values tests value test are is)

pub take-next : (values : List Value) (number : ℕ) (value : Value) → number < length values
    → value ≡ get_or values number value
    → take (number + 1) (map view values) ≡ take number (map view values) ++ view value ∷ []
take-next values number value within is =
    let inside : number < length (map view values) =
    subst (λ n. number < n) (sym (length-map values view)) within in
    take_more (map view values) number (view value) inside
    ∙ ap (λ v. take number (map view values) ++ v ∷ [])
    (get_or-map view values number value (view value) within ∙ ap view (sym is))

pub tests-next : (values : List Value) (number : ℕ) (value : Value) (tests : List TestModel)
    (test : TestModel)
    → number < length values → value ≡ get_or values number value
    → AreCTests (take number (map view values)) tests → IsCTest (view value) test
    → AreCTests (take (number + 1) (map view values)) (tests ++ test ∷ [])
tests-next values number value tests test within is are test_is =
    subst (λ vs. AreCTests vs (tests ++ test ∷ [])) (sym (take-next values number value within is))
    (are-more (take number (map view values)) tests (view value) test are test_is)
