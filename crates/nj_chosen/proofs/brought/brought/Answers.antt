use Rattle.std.proofs.Common.{[], ◌<◌, ◌≤◌, map, length, sym, ap, subst, ◌∙◌, arith}
use Rattle.std.specs.Prelude.{Contains}
use Rattle.std.proofs.lemmas.List.{length-map}
use Rattle.std.proofs.lemmas.List.Elements.{All-contains}
use Rattle.nj_tests.specs.Tests.{test_model}
use Rattle.nj_chosen.specs.Inside.Bringing.{Brings, FindsMore, test_at}
use Rattle.nj_chosen.proofs.AnswerLemmas.{all-answers}
use Rattle.nj_chosen.proofs.BringLemmas.{below-limit, bringing-begins, bringing-continues, bringing-ends}
use Rattle.nj_chosen.proofs.BringLemmas.{model-at}
use Rattle.nj_chosen.proofs.brought.brought.Goals as goal

pub tests-init : goal.tests-init
tests-init c =
    let tests = map test_model c.args.tests.now in
    let count = length-map c.args.tests.now test_model in
    bringing-begins c.args.way tests (Contains c.args.first.now) c.in_ok-answers.answers c.in_ok-found.found
    c.add_all.new.found
    (c.in_ok-found.ensures ∙ ap (λ n. record { limit = n; numbers = [] }) (sym count))
    c.in_ok-add_all.ensures
    (λ n has. subst (λ m. n < m) (sym count)
    (All-contains (λ k. k < length c.args.tests.now) c.args.first.now n c.requires has))
    (record {
      by_fixtures = all-answers _ c.in_ok-answers.answers.fixtures c.in_ok-answers.ensures.fixtures;
      by_names = all-answers _ c.in_ok-answers.answers.tests c.in_ok-answers.ensures.tests;
    })

pub add_brought-requires : goal.add_brought-requires
add_brought-requires c = below-limit c.args.way (map test_model c.args.tests.now) c.tests.answers
    c.tests.found.numbers c.tests.found.limit c.tests.invariant.limit c.tests.invariant.answers_are

pub tests-preserved : goal.tests-preserved
tests-preserved c =
    let below : c.tests.place < length c.tests.found.numbers =
    omega (arith, c.tests-test.true, ap length c.numbers.ensures.numbers) in
    let tests = map test_model c.args.tests.now in
    let held = c.tests.invariant in
    let within : c.number_at-number.result < length c.args.tests.now =
    omega (arith, c.number_at-number.ensures.known, held.limit, length-map c.args.tests.now test_model) in
    let same = model-at c.args.tests.now c.number_at-number.result c.index-tests-number.result within
    c.index-tests-number.is
    ∙ ap (test_at tests) c.number_at-number.ensures.number in
    bringing-continues c.args.way tests (Contains c.args.first.now) c.tests.answers c.add_brought.new.answers
    c.tests.found c.add_brought.new.found c.tests.place below held
    (subst (λ t. FindsMore (Brings c.args.way tests t) c.tests.found c.add_brought.new.found) same
    (c.in_ok-add_brought.ensures.found tests held.answers_are))
    (c.in_ok-add_brought.ensures.answers tests held.answers_are)

pub returns-clause-limit : goal.returns-clause-limit
returns-clause-limit c = c.tests.invariant.limit ∙ length-map c.args.tests.now test_model

pub returns-clause-brought : goal.returns-clause-brought
returns-clause-brought c =
    let past : length c.tests.found.numbers ≤ c.tests.place =
    omega (arith, c.tests-test.false, ap length c.numbers.ensures.numbers) in
    bringing-ends c.args.way (map test_model c.args.tests.now) (Contains c.args.first.now) c.tests.answers
    c.tests.found c.tests.place past c.tests.invariant
