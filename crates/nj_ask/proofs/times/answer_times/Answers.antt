use Rattle.std.proofs.Common.{◌≡◌, ℕ, false, List, Ok, map, string_bytes, sym, ap, subst, ◌∙◌}
use Rattle.nj_graph.specs.Files.{path_at}
use Rattle.nj_graph.specs.Graph.{GraphModel, files_of}
use Rattle.nj_questions.specs.Questions.{times_model}
use Rattle.nj_ask.specs.Answers.{HasDepfileFault, IsClear, asked_targets}
use Rattle.nj_ask.specs.Endings.{answered}
use Rattle.nj_ask.specs.Times.{AnswersTimes, IsReportBy}
use Rattle.nj_ask.specs.Times.AnswersTimes.{reported}
use Rattle.nj_ask.specs.Inside.AnswerParts.{SaysErr}
use Rattle.nj_ask.specs.declared.status.Status.TheVariants.{Fault}
use Rattle.nj_ask.proofs.EndingLemmas.{gives-refused}
use Rattle.nj_ask.proofs.TimesLemmas.{timed-paths, times-no-depfile, times-no-target}
use Rattle.nj_ask.proofs.times.answer_times.Goals as goal

pub returns-in-Err : goal.returns-in-Err
returns-in-Err c entries graph =
    let known = c.args.known.now in
    let options = times_model c.args.options.now in
    let log = c.args.log.now in
    gives-refused (AnswersTimes known entries log options) Fault
    (SaysErr (asked_targets known.graph (map string_bytes c.deref.result.now)))
    (λ line says. times-no-target known entries log options line
    (subst (λ words. SaysErr (asked_targets known.graph (map string_bytes words)) line) c.deref.ensures.value
    says))
    c.in-Err.failure c.in-Err.ensures.refused

pub returns-in-Err-check_depfiles : goal.returns-in-Err-check_depfiles
returns-in-Err-check_depfiles c entries graph =
    let known = c.args.known.now in
    let options = times_model c.args.options.now in
    let log = c.args.log.now in
    let targets = c.in-Ok.targets in
    let are = subst (λ words. asked_targets known.graph (map string_bytes words) ≡ Ok targets.paths)
    c.deref.ensures.value c.in-Ok.ensures.targets in
    let paths = subst (λ (h : GraphModel). map (path_at (files_of h)) c.numbers.result.now ≡ targets.paths)
    c.in-Ok.ensures.of c.numbers.ensures.paths in
    let at-paths = ap (map (path_at (files_of known.graph))) c.deref-3.ensures.value
    ∙ timed-paths known.graph c.deref-2.result.now c.numbers.result.now c.in_ok-files.files.items
    targets.paths
    c.deref-2.ensures paths c.in_ok-files.ensures.grown in
    gives-refused (AnswersTimes known entries log options) Fault
    (HasDepfileFault known (map (path_at (files_of known.graph)) c.deref-3.result.now))
    (λ line has. times-no-depfile known entries log options targets.paths are line
    (subst (λ ps. HasDepfileFault known ps line) at-paths has))
    c.in-Err-check_depfiles.failure c.in-Err-check_depfiles.ensures.refused

pub returns : goal.returns
returns c entries graph =
    let known = c.args.known.now in
    let options = times_model c.args.options.now in
    let log = c.args.log.now in
    let targets = c.in-Ok.targets in
    let are = subst (λ words. asked_targets known.graph (map string_bytes words) ≡ Ok targets.paths)
    c.deref.ensures.value c.in-Ok.ensures.targets in
    let paths = subst (λ (h : GraphModel). map (path_at (files_of h)) c.numbers.result.now ≡ targets.paths)
    c.in-Ok.ensures.of c.numbers.ensures.paths in
    let files = c.in_ok-files.files.items in
    let asked = timed-paths known.graph c.deref-2.result.now c.numbers.result.now files targets.paths
    c.deref-2.ensures paths c.in_ok-files.ensures.grown in
    let clear = subst (IsClear known) (ap (map (path_at (files_of known.graph))) c.deref-3.ensures.value
    ∙ asked)
    c.in-Ok-check_depfiles.ensures.clear in
    let text = c.in_ok-output.output.items in
    let written = subst (λ (ps : List (List ℕ)). IsReportBy options.by_rule known.graph log.lines ps options
    text)
    (ap (map (path_at (files_of known.graph))) c.deref-4.ensures.value ∙ asked) c.in_ok-output.ensures in
    subst (λ (warnings : List ℕ). AnswersTimes known entries log options text (answered false warnings))
    (sym (c.in_ok-warnings.ensures entries graph)) (reported are clear written)
