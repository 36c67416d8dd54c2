use Rattle.std.proofs.Common.{subst}
use Rattle.nj_tests.specs.Tests.{test_model}
use Rattle.nj_chosen.specs.Chosen.{answered_fixtures, answered_tests}
use Rattle.nj_chosen.specs.Inside.Numbers.{AddsNumber}
use Rattle.nj_chosen.proofs.AnswerLemmas.{all-none, all-step, all-tests}
use Rattle.nj_chosen.proofs.brought.answers_of.Goals as goal

pub tests-init : goal.tests-init
tests-init c = record {
  fixtures = all-none c.new.result c.new.ensures;
  tests = all-none c.new-2.result c.new-2.ensures;
}

pub tests-preserved : goal.tests-preserved
tests-preserved c =
    let way = c.args.way in
    let tests = c.args.tests.now in
    let number = c.tests.number in
    let test = c.index-tests-number.result in
    let old = c.tests.answers in
    let new = c.add_answers.new.answers in
    record {
      fixtures = all-step (answered_fixtures way) tests number test old.fixtures new.fixtures
          c.tests-test.true
          c.tests.invariant.fixtures
          (subst (λ t. AddsNumber (answered_fixtures way (test_model t)) number old.fixtures new.fixtures)
          c.index-tests-number.is c.in_ok-add_answers.ensures.fixtures);
      tests = all-step (answered_tests way) tests number test old.tests new.tests c.tests-test.true
          c.tests.invariant.tests
          (subst (λ t. AddsNumber (answered_tests way (test_model t)) number old.tests new.tests)
          c.index-tests-number.is c.in_ok-add_answers.ensures.tests);
    }

pub returns-clause-fixtures : goal.returns-clause-fixtures
returns-clause-fixtures c = all-tests (answered_fixtures c.args.way) c.args.tests.now c.tests.number
    c.tests.answers.fixtures c.tests-test.false c.tests.invariant.fixtures

pub returns-clause-tests : goal.returns-clause-tests
returns-clause-tests c = all-tests (answered_tests c.args.way) c.args.tests.now c.tests.number
    c.tests.answers.tests c.tests-test.false c.tests.invariant.tests
