use Rattle.std.proofs.Common.{◌≡◌, Ok, map, string_bytes, sym, ap, subst, ◌∙◌}
use Rattle.nj_names.specs.Files.{AreFiles}
use Rattle.nj_graph.specs.Files.{path_at}
use Rattle.nj_graph.specs.Graph.{GraphModel, files_of}
use Rattle.nj_questions.specs.Questions.{stale_model}
use Rattle.nj_ask.specs.Answers.{HasDepfileFault, IsClear, asked_targets}
use Rattle.nj_ask.specs.Stales.{AnswersBuild, AnswersStale, files_asked}
use Rattle.nj_ask.specs.Inside.AnswerParts.{SaysErr}
use Rattle.nj_ask.specs.Inside.Failures.{Gives}
use Rattle.nj_ask.specs.Inside.StaleParts.{LacksTime}
use Rattle.nj_ask.specs.declared.status.Status.TheVariants.{Fault}
use Rattle.nj_ask.proofs.EndingLemmas.{gives-refused}
use Rattle.nj_ask.proofs.StaleLemmas.{asked-files, asked-paths, stale-judged, stale-no-depfile}
use Rattle.nj_ask.proofs.StaleLemmas.{stale-no-target, stale-no-time}
use Rattle.nj_ask.proofs.stale.answer_stale.Goals as goal

pub returns-in-Err : goal.returns-in-Err
returns-in-Err g c entries graph =
    let known = c.args.known.now in
    let options = stale_model c.args.options.now in
    let log = c.args.log.now in
    let times = g.T.FileTimes.times c.args.times.now in
    gives-refused (AnswersStale known entries log times options) Fault
    (SaysErr (asked_targets known.graph (map string_bytes c.deref.result.now)))
    (λ line says. stale-no-target known entries log times options line
    (subst (λ words. SaysErr (asked_targets known.graph (map string_bytes words)) line) c.deref.ensures.value
    says))
    c.in-Err.failure c.in-Err.ensures.refused

pub returns-in-Err-check_depfiles : goal.returns-in-Err-check_depfiles
returns-in-Err-check_depfiles g c entries graph =
    let known = c.args.known.now in
    let options = stale_model c.args.options.now in
    let log = c.args.log.now in
    let times = g.T.FileTimes.times c.args.times.now in
    let targets = c.in-Ok.targets in
    let are = subst (λ words. asked_targets known.graph (map string_bytes words) ≡ Ok targets.paths)
    c.deref.ensures.value c.in-Ok.ensures.targets in
    let paths = subst (λ (h : GraphModel). map (path_at (files_of h)) c.numbers.result.now ≡ targets.paths)
    c.in-Ok.ensures.of c.numbers.ensures.paths in
    let files = files_asked known.graph options targets.paths in
    let are-files = asked-files known.graph options c.deref-2.result.now c.in_ok-manifest.manifest
    c.numbers.result.now c.in_ok-files.files.items targets.paths c.deref-2.ensures
    c.in_ok-manifest.ensures.path paths
    c.in_ok-files.ensures.files in
    let at-paths = ap (map (path_at (files_of known.graph))) c.deref-3.ensures.value
    ∙ asked-paths known.graph c.in_ok-files.files.items files are-files in
    gives-refused (AnswersStale known entries log times options) Fault
    (HasDepfileFault known (map (path_at (files_of known.graph)) c.deref-3.result.now))
    (λ line has. stale-no-depfile known entries log times options targets.paths are line
    (subst (λ ps. HasDepfileFault known ps line) at-paths has))
    c.in-Err-check_depfiles.failure c.in-Err-check_depfiles.ensures.refused

pub returns-in-Err-judged_graph : goal.returns-in-Err-judged_graph
returns-in-Err-judged_graph g c entries graph =
    let known = c.args.known.now in
    let options = stale_model c.args.options.now in
    let log = c.args.log.now in
    let times = g.T.FileTimes.times c.args.times.now in
    let targets = c.in-Ok.targets in
    let are = subst (λ words. asked_targets known.graph (map string_bytes words) ≡ Ok targets.paths)
    c.deref.ensures.value c.in-Ok.ensures.targets in
    let paths = subst (λ (h : GraphModel). map (path_at (files_of h)) c.numbers.result.now ≡ targets.paths)
    c.in-Ok.ensures.of c.numbers.ensures.paths in
    let files = files_asked known.graph options targets.paths in
    let are-files = asked-files known.graph options c.deref-2.result.now c.in_ok-manifest.manifest
    c.numbers.result.now c.in_ok-files.files.items targets.paths c.deref-2.ensures
    c.in_ok-manifest.ensures.path paths
    c.in_ok-files.ensures.files in
    let at-paths = ap (map (path_at (files_of known.graph))) c.deref-3.ensures.value
    ∙ asked-paths known.graph c.in_ok-files.files.items files are-files in
    let clear = subst (IsClear known) at-paths c.in-Ok-check_depfiles.ensures.clear in
    gives-refused (AnswersStale known entries log times options) Fault (LacksTime times known.graph)
    (λ line lacks. stale-no-time known entries log times options targets.paths are clear line lacks)
    c.in-Err-judged_graph.failure c.in-Err-judged_graph.ensures.refused

pub answer_of-requires-clause-files : goal.answer_of-requires-clause-files
answer_of-requires-clause-files g c =
    let known = c.args.known.now in
    let options = stale_model c.args.options.now in
    let targets = c.in-Ok.targets in
    let paths = subst (λ (h : GraphModel). map (path_at (files_of h)) c.numbers.result.now ≡ targets.paths)
    c.in-Ok.ensures.of c.numbers.ensures.paths in
    let paths2 = subst (λ (h : GraphModel). map (path_at (files_of h)) c.numbers-targets.result.now
    ≡ targets.paths) c.in-Ok.ensures.of c.numbers-targets.ensures.paths in
    let are-files = asked-files known.graph options c.deref-2.result.now c.in_ok-manifest.manifest
    c.numbers.result.now c.in_ok-files.files.items targets.paths c.deref-2.ensures
    c.in_ok-manifest.ensures.path paths
    c.in_ok-files.ensures.files in
    subst (λ ps. AreFiles (files_of known.graph) c.deref-4.result.now (files_asked known.graph options ps))
    (sym paths2)
    (subst (λ fs. AreFiles (files_of known.graph) fs (files_asked known.graph options targets.paths))
    (sym c.deref-4.ensures.value) are-files)

pub returns : goal.returns
returns g c entries graph =
    let known = c.args.known.now in
    let options = stale_model c.args.options.now in
    let log = c.args.log.now in
    let times = g.T.FileTimes.times c.args.times.now in
    let targets = c.in-Ok.targets in
    let are = subst (λ words. asked_targets known.graph (map string_bytes words) ≡ Ok targets.paths)
    c.deref.ensures.value c.in-Ok.ensures.targets in
    let paths = subst (λ (h : GraphModel). map (path_at (files_of h)) c.numbers.result.now ≡ targets.paths)
    c.in-Ok.ensures.of c.numbers.ensures.paths in
    let files = files_asked known.graph options targets.paths in
    let are-files = asked-files known.graph options c.deref-2.result.now c.in_ok-manifest.manifest
    c.numbers.result.now c.in_ok-files.files.items targets.paths c.deref-2.ensures
    c.in_ok-manifest.ensures.path paths
    c.in_ok-files.ensures.files in
    let at-paths = ap (map (path_at (files_of known.graph))) c.deref-3.ensures.value
    ∙ asked-paths known.graph c.in_ok-files.files.items files are-files in
    let clear = subst (IsClear known) at-paths c.in-Ok-check_depfiles.ensures.clear in
    let paths2 = subst (λ (h : GraphModel). map (path_at (files_of h)) c.numbers-targets.result.now
    ≡ targets.paths) c.in-Ok.ensures.of c.numbers-targets.ensures.paths in
    stale-judged known entries log times options targets.paths are clear c.answer_of.result
    (subst (λ ps. Gives (AnswersBuild known entries log times options ps) c.answer_of.result) paths2
    (c.answer_of.ensures entries graph times (c.in-Ok-judged_graph.ensures.build entries graph)))
