use Rattle.std.proofs.Common.{map, subst}
use Rattle.std.specs.Prelude.{string_bytes}
use Rattle.std.proofs.lemmas.Result.{IfOk-weaker}
use Rattle.nj_changes.specs.FullPaths.{all_sought}
use Rattle.nj_changes.specs.Tables.{SameNames}
use Rattle.nj_questions.specs.Questions.{tests_model}
use Rattle.nj_tests.specs.Tests.{test_model}
use Rattle.nj_ask.specs.Inside.Lent.{texts}
use Rattle.nj_ask.proofs.TestLemmas.{files-named, no-files}
use Rattle.nj_ask.proofs.chosen_tests.test_files.Goals as goal

pub returns-then-not-known : goal.returns-then-not-known
returns-then-not-known c =
    no-files (tests_model c.args.options.now) (map test_model c.args.tests.now) c.args.folder.now
    (texts c.args.paths.now) c.new.result c.args.known.now.has_discovered c.if-not-known.true c.new.ensures

pub returns : goal.returns
returns c =
    let options = tests_model c.args.options.now in
    let tests = map test_model c.args.tests.now in
    let folder = c.args.folder.now in
    let paths = texts c.args.paths.now in
    IfOk-weaker c.named_by_tests.result _ _ (λ files named.
    files-named options tests folder paths files c.args.known.now.has_discovered c.in_ok-sought.sought
    c.if-not-known.false
    (subst (λ dirs. SameNames c.in_ok-sought.sought (all_sought folder (map string_bytes dirs) paths))
    c.deref.ensures.value c.in_ok-sought.ensures)
    named) c.named_by_tests.ensures
