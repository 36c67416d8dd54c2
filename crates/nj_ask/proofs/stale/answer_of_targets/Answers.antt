use Rattle.std.proofs.Common.{map, subst}
use Rattle.nj_graph.specs.Files.{path_at}
use Rattle.nj_graph.specs.Graph.{files_of}
use Rattle.nj_questions.specs.Questions.{stale_model}
use Rattle.nj_ask.specs.declared.status.Status.TheVariants.{Fault}
use Rattle.nj_ask.specs.Stales.{AnswersBuild, files_asked}
use Rattle.nj_ask.specs.Inside.StaleParts.{ListsStale, StopsAt}
use Rattle.nj_ask.proofs.EndingLemmas.{gives-refused}
use Rattle.nj_ask.proofs.StaleLemmas.{build-lists, target-stops}
use Rattle.nj_ask.proofs.stale.answer_of_targets.Goals as goal

pub returns-in-Err : goal.returns-in-Err
returns-in-Err c = λ entries graph times is current.
    let known = c.args.known.now in
    let log = c.args.log.now in
    let options = stale_model c.args.options.now in
    let targets = map (path_at (files_of known.graph)) c.args.targets.now in
    gives-refused (AnswersBuild known entries log times options targets) Fault
    (StopsAt known entries log times targets)
    (λ line stops. target-stops known entries log times options targets current line stops)
    c.in-Err.failure (c.in-Err.ensures.refused entries log times is)

pub returns : goal.returns
returns c = λ entries graph times is current.
    let known = c.args.known.now in
    let log = c.args.log.now in
    let options = stale_model c.args.options.now in
    let targets = map (path_at (files_of known.graph)) c.args.targets.now in
    let answer = c.in_ok-listed.field-0 in
    build-lists known entries log times options targets current (c.in-Ok.ensures.none entries log times is)
    c.in_ok-stale.stale.items
    (c.in_ok-stale.ensures.stale entries log times (files_asked known.graph options targets) is
    c.requires.files)
    answer
    (subst (λ s. ListsStale known entries log times options s answer) c.deref.ensures.value
    (c.in_ok-listed.ensures entries graph times is))
