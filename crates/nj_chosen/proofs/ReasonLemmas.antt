-- Reasons, one test after another.
use Rattle.std.proofs.Common.{◌≡◌, ◌<◌, ◌+◌, ℕ, List, [], ◌∷◌, ◌++◌, map, length, take, get_or, sym, ap, ◌∙◌}
use Rattle.std.specs.Prelude.{Option, option_map}
use Rattle.std.proofs.lemmas.List.{length-map, map_more, map_push}
use Rattle.nj_tests.specs.Tests.{TestModel, test_model}
use Rattle.nj_tests.specs.declared.test.Test.{Test}
use Rattle.nj_chosen.specs.declared.reason.Reason.{Reason}
use Rattle.nj_chosen.specs.Reasons.{Why, why_of}

-- the reason of one more test
pub reasons-more : (f : TestModel → Option Why) (tests : List Test) (i : ℕ) (test : Test)
    (old new : List (Option Reason)) (reason : Option Reason) → i < length tests → test ≡ get_or tests i test
    → map (λ r. option_map why_of r) old ≡ map f (map test_model (take i tests)) → new ≡ old ++ reason ∷ []
    → option_map why_of reason ≡ f (test_model test)
    → map (λ r. option_map why_of r) new ≡ map f (map test_model (take (i + 1) tests))
reasons-more f tests i test old new reason within at are is of =
    ap (map (λ r. option_map why_of r)) is ∙ map_push (λ r. option_map why_of r) old reason
    ∙ ap (λ rs. rs ++ option_map why_of reason ∷ []) are
    ∙ ap (λ r. map f (map test_model (take i tests)) ++ r ∷ []) (of ∙ ap (λ t. f (test_model t)) at)
    ∙ sym (map_push f (map test_model (take i tests)) (test_model (get_or tests i test)))
    ∙ sym (ap (map f) (map_more test_model tests i test within))

-- a reason for each test
pub reasons-count : (f : TestModel → Option Why) (tests : List Test) (reasons : List (Option Reason))
    → map (λ r. option_map why_of r) reasons ≡ map f (map test_model tests) → length reasons ≡ length tests
reasons-count f tests reasons are =
    sym (length-map reasons (λ r. option_map why_of r)) ∙ ap length are
    ∙ length-map (map test_model tests) f ∙ length-map tests test_model
