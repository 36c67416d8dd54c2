use Rattle.std.proofs.Common.{map, subst}
use Rattle.nj_graph.specs.Files.{path_at}
use Rattle.nj_graph.specs.Graph.{files_of}
use Rattle.nj_questions.specs.Questions.{stale_model}
use Rattle.nj_ask.specs.declared.status.Status.TheVariants.{Fault}
use Rattle.nj_ask.specs.Stales.{AnswersBuild, manifest_targets}
use Rattle.nj_ask.specs.Inside.StaleParts.{AnswersManifest, StopsAt}
use Rattle.nj_ask.proofs.EndingLemmas.{gives-refused}
use Rattle.nj_ask.proofs.StaleLemmas.{manifest-answers, manifest-stops}
use Rattle.nj_ask.proofs.stale.answer_of.Goals as goal

pub returns-in-Some : goal.returns-in-Some
returns-in-Some c = λ entries graph times is.
    let known = c.args.known.now in
    manifest-answers known entries c.args.log.now times (stale_model c.args.options.now)
    (map (path_at (files_of known.graph)) c.args.targets.now) c.in-Some.answer
    (subst (AnswersManifest known entries c.args.log.now times (stale_model c.args.options.now)) c.in-Some.is
    (c.in-Ok.ensures.answer entries graph times is))

pub returns-in-None : goal.returns-in-None
returns-in-None c = λ entries graph times is.
    c.answer_of_targets.ensures entries graph times is
    (subst (AnswersManifest c.args.known.now entries c.args.log.now times (stale_model c.args.options.now))
    c.in-None.is (c.in-Ok.ensures.answer entries graph times is))

pub returns-in-Err : goal.returns-in-Err
returns-in-Err c = λ entries graph times is.
    let known = c.args.known.now in
    let log = c.args.log.now in
    let options = stale_model c.args.options.now in
    let targets = map (path_at (files_of known.graph)) c.args.targets.now in
    gives-refused (AnswersBuild known entries log times options targets) Fault
    (StopsAt known entries log times (manifest_targets known.graph options))
    (λ line stops. manifest-stops known entries log times options targets line stops)
    c.in-Err.failure (c.in-Err.ensures.refused entries graph times is)
