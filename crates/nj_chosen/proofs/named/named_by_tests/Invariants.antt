use Rattle.std.proofs.Common.{map, take}
use Rattle.nj_tests.specs.Tests.{test_model}
use Rattle.nj_changes.specs.Tables.{SameNames}
use Rattle.nj_chosen.specs.TestPaths.{named_by_tests}
use Rattle.nj_chosen.proofs.named.named_by_tests.Given as goal

abbrev pub invariant-tests : goal.invariant-tests
invariant-tests l = SameNames l.named
    (named_by_tests l.build l.paths (map test_model (take l.test-index l.tests)))
