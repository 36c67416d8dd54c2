use Rattle.std.proofs.Common.{map, take}
use Rattle.nj_tests.specs.Tests.{test_model}
use Rattle.nj_chosen.specs.Inside.Bringing.{HasAll, fixture_rows, test_rows}
use Rattle.nj_chosen.proofs.brought.answers_of.Given as goal

abbrev pub invariant-tests : goal.invariant-tests
invariant-tests l = record {
  fixtures : HasAll (fixture_rows l.fn.way (map test_model (take l.number l.tests))) l.answers.fixtures;
  tests : HasAll (test_rows l.fn.way (map test_model (take l.number l.tests))) l.answers.tests;
}
