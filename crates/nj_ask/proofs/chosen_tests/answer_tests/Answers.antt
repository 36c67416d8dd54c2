use Rattle.std.proofs.Common.{Ok, map, sym, ap, subst, ◌∙◌}
use Rattle.nj_changes.specs.Ignored.{AreLeft}
use Rattle.nj_changes.specs.Tables.{SameNames}
use Rattle.nj_questions.specs.Questions.{tests_model}
use Rattle.nj_tests.specs.Tests.{test_model}
use Rattle.nj_ask.specs.Answers.{change_asked}
use Rattle.nj_ask.specs.ChosenTests.{AnswersTests, remarks, test_files}
use Rattle.nj_ask.specs.Inside.Asking.{named_files}
use Rattle.nj_ask.specs.Inside.Failures.{Gives}
use Rattle.nj_ask.specs.Inside.Reached.{AreEdgesOf}
use Rattle.nj_ask.specs.Inside.Lent.{change_model, new_model, texts}
use Rattle.nj_ask.proofs.EndingLemmas.{gives-memory}
use Rattle.nj_ask.proofs.TestLemmas.{gives-no-folder, gives-no-keys, gives-tests, no-bytes, some-bytes}
use Rattle.nj_ask.proofs.chosen_tests.answer_tests.Goals as goal

pub returns-then-is_empty : goal.returns-then-is_empty
returns-then-is_empty g c entries graph =
    gives-no-folder c.args.known.now entries (g.T.FileTimes.times c.args.times.now) c.args.folder.now
    (tests_model c.args.options.now)
    (named_files c.args.named.now).tests (named_files c.args.named.now).since c.args.input.now
    c.in_words.result
    (no-bytes c.args.folder.now (sym c.is_empty.ensures ∙ c.if-is_empty.true)) c.in_words.ensures

pub returns : goal.returns
returns g c entries graph =
    let options = tests_model c.args.options.now in
    let tests = map test_model c.as_slice-tests.result.now in
    let since = (named_files c.args.named.now).since in
    let new = new_model c.in-Ok.since in
    let paths = texts c.in_ok-paths.paths.items in
    let files = c.in_ok-test_files.test_files in
    let answer = c.in_ok-written_answer.field-0 in
    subst (λ tests. Gives (AnswersTests c.args.known.now entries (g.T.FileTimes.times c.args.times.now)
    c.args.folder.now options tests since
    c.args.input.now) (Ok answer)) (ap (map test_model) c.as_slice-tests.ensures.value)
    (gives-tests c.args.known.now entries (g.T.FileTimes.times c.args.times.now) c.args.folder.now options
    tests since c.args.input.now
    answer (change_model c.change_of-change.result) files paths new c.in_ok-reach.reach
    c.in_ok-remarks.remarks.items
    (some-bytes c.args.folder.now (sym c.is_empty.ensures ∙ c.if-is_empty.false))
    (c.in-Ok.ensures.new entries graph)
    (record {
      globs = c.args.globs.now;
      are_globs = c.requires.globs.are;
      are_left = subst (λ given. AreLeft c.args.globs.now given paths)
          (ap texts c.deref.ensures.value ∙ c.in_ok-given.ensures) c.in_ok-paths.ensures.left;
    })
    (subst (λ ps. SameNames files (test_files c.args.known.now.has_discovered options tests
    c.args.folder.now ps)) (ap texts c.deref-2.ensures.value) c.in_ok-test_files.ensures)
    (c.change_of-change.ensures.model
    ∙ ap (λ paths. change_asked options.change c.args.folder.now files paths new)
    (ap texts c.deref-3.ensures.value))
    c.in_ok-reach.ensures.reach (c.in_ok-reach.ensures.caveats entries graph)
    (c.in_ok-remarks.ensures
    ∙ ap (λ given. remarks options given tests) (ap texts c.deref-4.ensures.value ∙ c.in_ok-given.ensures))
    c.in_ok-written_answer.ensures.warnings (c.in_ok-written_answer.ensures.output entries graph)
    c.in_ok-written_answer.ensures.looks)

pub reach_of-requires-clause-commands : goal.reach_of-requires-clause-commands
reach_of-requires-clause-commands g c =
    subst (AreEdgesOf c.args.known.now.graph) (sym c.change_of-change.ensures.commands)
    c.in-Ok.ensures.known

pub returns-in-Err : goal.returns-in-Err
returns-in-Err g c entries graph =
    gives-no-keys c.args.known.now entries (g.T.FileTimes.times c.args.times.now) c.args.folder.now
    (tests_model c.args.options.now)
    (named_files c.args.named.now).tests (named_files c.args.named.now).since c.args.input.now
    c.in-Err.failure (some-bytes c.args.folder.now (sym c.is_empty.ensures ∙ c.if-is_empty.false))
    c.in-Err.ensures.wrong

pub returns-in_err-remarks : goal.returns-in_err-remarks
returns-in_err-remarks g c entries graph =
    gives-memory (AnswersTests c.args.known.now entries (g.T.FileTimes.times c.args.times.now)
    c.args.folder.now (tests_model c.args.options.now)
    (named_files c.args.named.now).tests (named_files c.args.named.now).since c.args.input.now)
    c.from_residual-in_err-remarks.result c.from_residual-in_err-remarks.ensures

pub returns-in_err-written_answer : goal.returns-in_err-written_answer
returns-in_err-written_answer g c entries graph =
    gives-memory (AnswersTests c.args.known.now entries (g.T.FileTimes.times c.args.times.now)
    c.args.folder.now (tests_model c.args.options.now)
    (named_files c.args.named.now).tests (named_files c.args.named.now).since c.args.input.now)
    c.from_residual-in_err-written_answer.result c.from_residual-in_err-written_answer.ensures
