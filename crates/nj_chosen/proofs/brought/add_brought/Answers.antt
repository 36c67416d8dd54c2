use Rattle.std.proofs.Common.{◌<◌, sym, subst}
use Rattle.nj_tests.specs.Tests.{test_model}
use Rattle.nj_chosen.specs.Inside.Bringing.{AnswersOne, FindsMore, fixture_rows, test_rows}
use Rattle.nj_chosen.specs.Chosen.{called_fixtures, called_tests}
use Rattle.nj_chosen.proofs.AnswerLemmas.{answers-kept}
use Rattle.nj_chosen.proofs.BringLemmas.{finds-brought}
use Rattle.nj_chosen.proofs.brought.add_brought.Goals as goal

pub take_each-requires-2 : goal.take_each-requires-2
take_each-requires-2 c = λ name number has.
    subst (λ limit. number < limit) (sym c.in_ok-take_each.ensures.limit) (c.requires.1 name number has)

pub returns-clause-found : goal.returns-clause-found
returns-clause-found c = λ tests are.
    let way = c.args.way in
    let caller = test_model c.args.test.now in
    let middle = c.take_each.new.found in
    let last = c.take_each-2.new.found in
    let first : FindsMore (AnswersOne (fixture_rows way tests) (called_fixtures way caller)) c.args.found.now
    middle =
    subst (λ ns. FindsMore (AnswersOne (fixture_rows way tests) ns) c.args.found.now middle)
    c.called_fixtures-fixtures.ensures
    (c.in_ok-take_each.ensures.found (fixture_rows way tests) are.by_fixtures) in
    let kept = answers-kept (test_rows way tests) c.args.answers.now.tests
    (AnswersOne (fixture_rows way tests) (called_fixtures way caller)) c.args.found.now middle first
    are.by_names in
    finds-brought way tests caller c.args.found.now middle last first
    (subst (λ ns. FindsMore (AnswersOne (test_rows way tests) ns) middle last) c.called_tests-names.ensures
    (c.in_ok-take_each-2.ensures.found (test_rows way tests) kept))

pub returns-clause-answers : goal.returns-clause-answers
returns-clause-answers c = λ tests are.
    let way = c.args.way in
    let caller = test_model c.args.test.now in
    let middle = c.take_each.new.found in
    let last = c.take_each-2.new.found in
    let first : FindsMore (AnswersOne (fixture_rows way tests) (called_fixtures way caller)) c.args.found.now
    middle =
    subst (λ ns. FindsMore (AnswersOne (fixture_rows way tests) ns) c.args.found.now middle)
    c.called_fixtures-fixtures.ensures
    (c.in_ok-take_each.ensures.found (fixture_rows way tests) are.by_fixtures) in
    let kept = answers-kept (test_rows way tests) c.args.answers.now.tests
    (AnswersOne (fixture_rows way tests) (called_fixtures way caller)) c.args.found.now middle first
    are.by_names in
    let second : FindsMore (AnswersOne (test_rows way tests) (called_tests way caller)) middle last =
    subst (λ ns. FindsMore (AnswersOne (test_rows way tests) ns) middle last) c.called_tests-names.ensures
    (c.in_ok-take_each-2.ensures.found (test_rows way tests) kept) in
    record {
      by_fixtures = answers-kept (fixture_rows way tests) c.take_each.new.numbers
          (AnswersOne (test_rows way tests) (called_tests way caller)) middle last second
          (c.in_ok-take_each.ensures.answers (fixture_rows way tests) are.by_fixtures);
      by_names = c.in_ok-take_each-2.ensures.answers (test_rows way tests) kept;
    }
