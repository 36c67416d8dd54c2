use Rattle.std.proofs.Common.{◌++◌, option_map, ap, ◌∙◌}
use Rattle.std.specs.List.{flat_map}
use Rattle.nj_chosen.specs.Choices.{choice_model}
use Rattle.nj_test_texts.specs.TestTexts.{entry_of, written}
use Rattle.nj_test_texts.proofs.TextLemmas.{all-written, body-more}
use Rattle.nj_test_texts.proofs.written_tests.body_of.Goals as goal

pub tests-preserved : goal.tests-preserved
tests-preserved c =
    body-more c.args.all c.args.chosen.now c.args.style c.args.tests.now c.tests.number
    c.index-tests-number.result (option_map choice_model c.choice.result) c.tests.text.items
    c.push_if_written.new.text.items c.tests-test.true c.choice.ensures c.index-tests-number.is
    (c.in_ok-push_if_written.ensures
    ∙ ap (λ name. c.tests.text.items ++ flat_map (entry_of c.args.style)
    (written c.args.all name (option_map choice_model c.choice.result))) c.as_str-name.ensures.value)
    c.tests.invariant

pub returns : goal.returns
returns c =
    all-written c.args.all c.args.chosen.now c.args.style c.args.tests.now c.tests.number c.tests.text.items
    c.tests-test.false c.tests.invariant
