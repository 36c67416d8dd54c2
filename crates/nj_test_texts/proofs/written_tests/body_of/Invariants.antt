use Rattle.std.proofs.Common.{◌≡◌, map, take}
use Rattle.nj_tests.specs.Tests.{test_model}
use Rattle.nj_test_texts.specs.TestTexts.{body_of, written_from}
use Rattle.nj_test_texts.proofs.written_tests.body_of.Given as goal

abbrev pub invariant-tests : goal.invariant-tests
invariant-tests l =
    l.text.items ≡ body_of l.fn.style (written_from l.fn.all l.chosen 0
    (map test_model (take l.number l.tests)))
