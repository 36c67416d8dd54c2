use Rattle.std.proofs.Common.{◌≡◌, map, take}
use Rattle.std.specs.Prelude.{option_map}
use Rattle.nj_tests.specs.Tests.{test_model}
use Rattle.nj_chosen.specs.Inside.Tables.{kinds_in}
use Rattle.nj_chosen.specs.Reasons.{reason_by, why_of}
use Rattle.nj_chosen.proofs.chosen_tests.reasons_of.Given as goal

abbrev pub invariant-tests : goal.invariant-tests
invariant-tests l = map (λ reason. option_map why_of reason) l.reasons.items
    ≡ map (reason_by (kinds_in l.tables) l.build l.fn.skips_unnamed)
    (map test_model (take l.test-index l.tests))
