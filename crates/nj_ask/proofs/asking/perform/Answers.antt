use Rattle.std.proofs.Common.{map, subst}
use Rattle.nj_questions.specs.Questions.{affected_model, audit_model, draw_model, keys_model, stale_model}
use Rattle.nj_questions.specs.Questions.{tests_model, times_model, why_model}
use Rattle.nj_ask.specs.Answers.{AnswersAffected, AnswersDraw, AnswersKeys, AnswersWhy}
use Rattle.nj_ask.specs.Audits.{AnswersAudit}
use Rattle.nj_ask.specs.ChosenTests.{AnswersTests}
use Rattle.nj_ask.specs.Inside.Asking.{IsTask, named_files}
use Rattle.nj_ask.specs.Inside.Failures.{Returns}
use Rattle.nj_ask.proofs.AskingLemmas.{affected-returns, audit-returns, draw-returns, keys-returns}
use Rattle.nj_ask.proofs.AskingLemmas.{stale-returns, tests-returns, times-returns, why-returns}
use Rattle.nj_ask.specs.Stales.{AnswersStale}
use Rattle.nj_ask.specs.Times.{AnswersTimings}
use Rattle.nj_ask.proofs.EndingLemmas.{returns-delivered}
use Rattle.nj_ask.proofs.asking.perform.Goals as goal

pub returns-in-Affected : goal.returns-in-Affected
returns-in-Affected g c entries is subject asks =
    let known = c.args.known.now in
    let options = c.in-Affected.options in
    let named = named_files c.args.named.now in
    affected-returns known entries _ _ _ named c.args.input.now _ _ _ subject c.args.task options
    c.in-Affected.globs
    c.in-Affected.is asks
    (returns-delivered (AnswersAffected known entries (g.T.FileTimes.times c.args.times.now) c.args.folder.now
    (affected_model options.now)
    named.since c.args.input.now)
    c.answer_affected.result _ _ _ (c.answer_affected.ensures entries is) c.deliver.ensures)

pub returns-in-Audit : goal.returns-in-Audit
returns-in-Audit g c entries is subject asks =
    let known = c.args.known.now in
    let options = c.in-Audit.options in
    audit-returns known entries _ _ _ _ c.args.input.now _ _ _ subject c.args.task options c.in-Audit.kinds
    c.in-Audit.is asks
    (returns-delivered (AnswersAudit known entries _ _ (audit_model options.now))
    c.answer_audit.result _ _ _ (c.answer_audit.ensures entries is) c.deliver-in-Audit.ensures)

pub answer_audit-requires : goal.answer_audit-requires
answer_audit-requires g c =
    let given = c.requires.given in
    (subst (IsTask given.0) c.in-Audit.is given.1).1.asked

pub returns-in-Draw : goal.returns-in-Draw
returns-in-Draw g c entries is subject asks =
    let known = c.args.known.now in
    let options = c.in-Draw.options in
    draw-returns known entries _ _ _ _ c.args.input.now _ _ _ subject c.args.task options c.in-Draw.is asks
    (returns-delivered (AnswersDraw known entries (draw_model options.now))
    c.answer_draw.result _ _ _ (c.answer_draw.ensures entries is) c.deliver-in-Draw.ensures)

pub returns-in-Why : goal.returns-in-Why
returns-in-Why g c entries is subject asks =
    let known = c.args.known.now in
    let options = c.in-Why.options in
    why-returns known entries _ _ _ _ c.args.input.now _ _ _ subject c.args.task options c.in-Why.is asks
    (returns-delivered (AnswersWhy known entries (why_model options.now))
    c.answer_why.result _ _ _ (c.answer_why.ensures entries is) c.deliver-in-Why.ensures)

pub returns-in-Keys : goal.returns-in-Keys
returns-in-Keys g c entries is subject asks =
    let known = c.args.known.now in
    let options = c.in-Keys.options in
    let page = c.in-Keys.page in
    keys-returns known entries _ _ _ (named_files c.args.named.now) c.args.input.now _ _ _ subject c.args.task
    options page c.in-Keys.is asks
    (subst (λ contents. Returns (AnswersKeys known entries (keys_model options.now)
    (map (λ content. content.items) contents) page.mark) (g.O.Sink.state c.args.out.now)
    (g.O.Sink.state c.deliver-in-Keys.new.out) c.deliver-in-Keys.result) c.deref.ensures.value
    (returns-delivered (AnswersKeys known entries (keys_model options.now)
    (map (λ content. content.items) c.deref.result.now) page.mark)
    c.answer_keys.result _ _ _ (c.answer_keys.ensures entries is) c.deliver-in-Keys.ensures))

pub returns-in-Stale : goal.returns-in-Stale
returns-in-Stale g c entries is subject asks =
    let known = c.args.known.now in
    let options = c.in-Stale.options in
    stale-returns known entries _ _ _ _ c.args.input.now _ _ _ subject c.args.task options c.in-Stale.is asks
    (returns-delivered (AnswersStale known entries c.args.log.now _ (stale_model options.now))
    c.answer_stale.result _ _ _ (c.answer_stale.ensures entries is) c.deliver-in-Stale.ensures)

pub returns-in-Times : goal.returns-in-Times
returns-in-Times g c entries is subject asks =
    let known = c.args.known.now in
    let options = c.in-Times.options in
    times-returns known entries _ _ _ _ c.args.input.now _ _ _ subject c.args.task options c.in-Times.is asks
    (returns-delivered (AnswersTimings options.now.dead known entries c.args.log.now
    (g.T.FileTimes.times c.args.times.now) (times_model options.now))
    c.answer_timings.result _ _ _ (c.answer_timings.ensures entries is) c.deliver-in-Times.ensures)

pub returns-in-Tests : goal.returns-in-Tests
returns-in-Tests g c entries is subject asks =
    let known = c.args.known.now in
    let options = c.in-Tests.options in
    let named = named_files c.args.named.now in
    tests-returns known entries _ _ _ named c.args.input.now _ _ _ subject
    c.args.task options c.in-Tests.globs c.in-Tests.is asks
    (returns-delivered (AnswersTests known entries (g.T.FileTimes.times c.args.times.now) c.args.folder.now
    (tests_model options.now) named.tests
    named.since c.args.input.now)
    c.answer_tests.result _ _ _ (c.answer_tests.ensures entries is) c.deliver-in-Tests.ensures)
