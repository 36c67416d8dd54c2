use Rattle.std.proofs.Common.{◌-◌, length, map}
use Rattle.std.specs.Prelude.{Contains}
use Rattle.nj_tests.specs.Tests.{test_model}
use Rattle.nj_chosen.specs.Inside.Bringing.{FindsBrought}
use Rattle.nj_chosen.proofs.brought.brought.Given as goal

abbrev pub invariant-tests : goal.invariant-tests
invariant-tests l = FindsBrought l.way (map test_model l.tests) (Contains l.first) l.answers l.found l.place

abbrev pub decreases-tests : goal.decreases-tests
decreases-tests l = length l.tests - l.place
