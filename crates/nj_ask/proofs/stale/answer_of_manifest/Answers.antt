use Rattle.std.proofs.Common.{◌==◌, ◌++◌, ℕ, [], None, length, map, true≢false, sym, ap, ap₂}
use Rattle.std.proofs.Common.{subst}
use Rattle.std.proofs.Common.{◌∙◌}
use Rattle.std.specs.Global.{Vec}
use Rattle.std.specs.List.{cons_option}
use Rattle.nj_names.specs.Files.{AreFiles}
use Rattle.nj_graph.specs.Files.{path_at}
use Rattle.nj_graph.specs.Graph.{edges_of, files_of}
use Rattle.nj_needs.specs.Growing.{grown_targets}
use Rattle.nj_questions.specs.Questions.{stale_model}
use Rattle.nj_ask.specs.declared.status.Status.TheVariants.{Fault}
use Rattle.nj_ask.specs.MissingSources.{IsStop}
use Rattle.nj_ask.specs.Stales.{WritesStale, manifest_needs, manifest_text}
use Rattle.nj_ask.specs.Inside.Failures.{FailsBy}
use Rattle.nj_ask.specs.Inside.StaleParts.{ListsStale, StopsAt}
use Rattle.nj_ask.proofs.StaleLemmas.{listed-path, no-bytes}
use Rattle.nj_ask.proofs.stale.answer_of_manifest.Goals as goal

pub returns-in-Err-clause-refused : goal.returns-in-Err-clause-refused
returns-in-Err-clause-refused c = λ entries graph times is.
    let known = c.args.known.now in
    let at = path_at (files_of known.graph) in
    subst (λ ps. FailsBy Fault (StopsAt known entries c.args.log.now times ps) c.in-Err.failure)
    (ap (map at) (c.deref.ensures.value ∙ c.in_ok-targets.ensures) ∙ listed-path at c.args.manifest
    ∙ ap (λ m. cons_option m []) c.requires.asked)
    (c.in-Err.ensures.refused entries c.args.log.now times is)

pub returns-then-is_empty-clause-answer : goal.returns-then-is_empty-clause-answer
returns-then-is_empty-clause-answer c = λ entries graph times is.
    let known = c.args.known.now in
    let g = known.graph in
    let log = c.args.log.now in
    let options = stale_model c.args.options.now in
    let at = path_at (files_of g) in
    let targets = ap (map at) (c.deref.ensures.value ∙ c.in_ok-targets.ensures)
    ∙ listed-path at c.args.manifest ∙ ap (λ m. cons_option m []) c.requires.asked in
    let files = c.in_ok-files.files.items in
    let are = subst (λ m. AreFiles (files_of g) files (grown_targets (edges_of g) (cons_option m [])))
    c.requires.asked (rw c.deref-2.ensures at c.in_ok-files.ensures.files) in
    let text = c.in_ok-line.ensures
    ∙ ap₂ (manifest_text g) c.deref-4.ensures.value c.requires.asked in
    let length-is = ap (λ n. n == 0) (sym c.in_ok-line.line.ok.0) ∙ sym c.is_empty.ensures in
    record {
      unstopped = subst (λ ps. IsStop known entries log times ps None) targets
          (c.in-Ok.ensures.none entries log times is);
      stale = c.in_ok-stale.stale.items;
      are_stale = c.in_ok-stale.ensures.stale entries log times (manifest_needs g options) is
          (subst (λ fs. AreFiles (files_of g) fs (manifest_needs g options)) (sym c.deref-3.ensures.value)
          are);
      current = sym text ∙ no-bytes c.in_ok-line.line.items (length-is ∙ c.if-is_empty.true);
    }

pub returns-clause-answer : goal.returns-clause-answer
returns-clause-answer c = λ entries graph times is.
    let known = c.args.known.now in
    let g = known.graph in
    let log = c.args.log.now in
    let options = stale_model c.args.options.now in
    let at = path_at (files_of g) in
    let targets = ap (map at) (c.deref.ensures.value ∙ c.in_ok-targets.ensures)
    ∙ listed-path at c.args.manifest ∙ ap (λ m. cons_option m []) c.requires.asked in
    let files = c.in_ok-files.files.items in
    let are = subst (λ m. AreFiles (files_of g) files (grown_targets (edges_of g) (cons_option m [])))
    c.requires.asked (rw c.deref-2.ensures at c.in_ok-files.ensures.files) in
    let text = c.in_ok-line.ensures
    ∙ ap₂ (manifest_text g) c.deref-4.ensures.value c.requires.asked in
    let length-is = ap (λ n. n == 0) (sym c.in_ok-line.line.ok.0) ∙ sym c.is_empty.ensures in
    let lists = subst (λ s. ListsStale known entries log times options s c.in_ok-answer.answer)
    c.deref-5.ensures.value (c.in_ok-answer.ensures entries graph times is) in
    record {
      unstopped = subst (λ ps. IsStop known entries log times ps None) targets
          (c.in-Ok.ensures.none entries log times is);
      stale = c.in_ok-stale.stale.items;
      are_stale = c.in_ok-stale.ensures.stale entries log times (manifest_needs g options) is
          (subst (λ fs. AreFiles (files_of g) fs (manifest_needs g options)) (sym c.deref-3.ensures.value)
          are);
      remade = λ none. true≢false (sym (ap (λ bytes. length bytes == 0) (text ∙ none)) ∙ length-is
          ∙ c.if-is_empty.false);
      output = subst (λ (v : Vec ℕ). WritesStale known entries log times options c.in_ok-stale.stale.items
          v.items)
          (sym c.in_ok-with_warning.ensures.output) lists.output;
      looks = c.in_ok-with_warning.ensures.looks ∙ lists.looks;
      warnings = c.in_ok-with_warning.ensures.warnings
          ∙ ap₂ (λ w l. w ++ l) lists.warnings (c.deref-6.ensures.value ∙ text);
    }
