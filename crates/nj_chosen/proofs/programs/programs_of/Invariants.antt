use Rattle.std.proofs.Common.{map, take}
use Rattle.nj_tests.specs.Tests.{test_model}
use Rattle.nj_changes.specs.Tables.{SameNames}
use Rattle.nj_chosen.specs.Reasons.{programs_of}
use Rattle.nj_chosen.proofs.programs.programs_of.Given as goal

abbrev pub invariant-tests : goal.invariant-tests
invariant-tests l = SameNames l.programs
    (programs_of l.build l.outputs (map test_model (take l.test-index l.tests)))
