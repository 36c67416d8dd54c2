use Rattle.std.proofs.Common.{◌≡◌, ◌∙◌, ◌++◌, Ok, false, map, ap, sym, subst}
use Rattle.std.specs.Prelude.{codes, string_bytes}
use Rattle.nj_graph.specs.Files.{path_at}
use Rattle.nj_graph.specs.Graph.{GraphModel, IsGraphOf, edges_of, files_of}
use Rattle.nj_keys.specs.Keys.{edges_stated}
use Rattle.nj_tools.specs.declared.EdgeDiscovery.{EdgeDiscovery}
use Rattle.nj_keys.specs.Pages.{leads}
use Rattle.nj_questions.specs.Questions.{keys_model}
use Rattle.nj_ask.specs.Answers.{AnswersTargetKeys, HasDepfileFault, IsClear, asked_targets, keys_text}
use Rattle.nj_ask.specs.Endings.{program_line}
use Rattle.nj_ask.specs.Pages.{mark_line}
use Rattle.nj_ask.specs.Shape.{caveat_text}
use Rattle.nj_ask.specs.Inside.AnswerParts.{SaysErr}
use Rattle.nj_ask.specs.declared.status.Status.TheVariants.{Fault}
use Rattle.nj_ask.proofs.KeysLemmas.{keys-lost, keys-no-depfile, keys-no-target, keys-page}
use Rattle.nj_ask.proofs.PartLemmas.{gives-refused}
use Rattle.nj_ask.proofs.keys.answer_target_keys.Goals as goal

pub returns-in-Err : goal.returns-in-Err
returns-in-Err c entries graph =
    let known = c.args.known.now in
    let options = keys_model c.args.options.now in
    let mark = c.args.asked.now.mark in
    let contents = map (λ content. content.items) c.args.contents.now in
    gives-refused (AnswersTargetKeys known entries options contents mark) Fault
    (SaysErr (asked_targets known.graph (map string_bytes c.deref.result.now)))
    (λ line says. keys-no-target known entries options contents mark line
    (subst (λ words. SaysErr (asked_targets known.graph (map string_bytes words)) line) c.deref.ensures.value
    says))
    c.in-Err.failure c.in-Err.ensures.refused

pub returns-in-Err-check_depfiles : goal.returns-in-Err-check_depfiles
returns-in-Err-check_depfiles c entries graph =
    let known = c.args.known.now in
    let options = keys_model c.args.options.now in
    let mark = c.args.asked.now.mark in
    let contents = map (λ content. content.items) c.args.contents.now in
    let files = c.in-Ok.targets in
    let numbers = c.numbers.result.now in
    let are = subst (λ words. asked_targets known.graph (map string_bytes words) ≡ Ok files.paths)
    c.deref.ensures.value c.in-Ok.ensures.targets in
    let paths = subst (λ (g : GraphModel). map (path_at (files_of g)) numbers ≡ files.paths)
    c.in-Ok.ensures.of
    c.numbers.ensures.paths in
    gives-refused (AnswersTargetKeys known entries options contents mark) Fault
    (HasDepfileFault known (map (path_at (files_of known.graph)) numbers))
    (λ line has. keys-no-depfile known entries options contents mark files.paths are line
    (subst (λ ps. HasDepfileFault known ps line) paths has))
    c.in-Err-check_depfiles.failure c.in-Err-check_depfiles.ensures.refused

pub returns-in-Err-page_of : goal.returns-in-Err-page_of
returns-in-Err-page_of c entries graph =
    let known = c.args.known.now in
    let options = keys_model c.args.options.now in
    let mark = c.args.asked.now.mark in
    let contents = map (λ content. content.items) c.args.contents.now in
    let files = c.in-Ok.targets in
    let numbers = c.numbers.result.now in
    let are = subst (λ words. asked_targets known.graph (map string_bytes words) ≡ Ok files.paths)
    c.deref.ensures.value c.in-Ok.ensures.targets in
    let paths = subst (λ (g : GraphModel). map (path_at (files_of g)) numbers ≡ files.paths)
    c.in-Ok.ensures.of
    c.numbers.ensures.paths in
    gives-refused (AnswersTargetKeys known entries options contents mark) Fault
    (λ line. (leads files mark ≡ false) × (line ≡ program_line (codes "mark out of range")))
    (λ line says. keys-lost known entries options contents mark files c.in-Ok.ensures.of are
    (subst (IsClear known) paths c.in-Ok-check_depfiles.ensures.clear) line says)
    c.in-Err-page_of.failure c.in-Err-page_of.ensures.refused

pub returns : goal.returns
returns c entries graph =
    let known = c.args.known.now in
    let options = keys_model c.args.options.now in
    let mark = c.args.asked.now.mark in
    let contents = map (λ content. content.items) c.args.contents.now in
    let files = c.in-Ok.targets in
    let numbers = c.numbers.result.now in
    let are = subst (λ words. asked_targets known.graph (map string_bytes words) ≡ Ok files.paths)
    c.deref.ensures.value c.in-Ok.ensures.targets in
    let paths = subst (λ (g : GraphModel). map (path_at (files_of g)) numbers ≡ files.paths)
    c.in-Ok.ensures.of
    c.numbers.ensures.paths in
    let answer = c.in_ok-keys_answer.field-0 in
    keys-page known entries options contents mark files c.in-Ok.ensures.of are
    (subst (IsClear known) paths c.in-Ok-check_depfiles.ensures.clear) c.args.asked.now.bases c.requires
    (map (λ text. text.now) c.deref-4.result.now)
    (ap (map (λ text. text.now)) c.deref-4.ensures.value ∙ c.in_ok-additions.ensures
    ∙ ap (λ texts. map string_bytes texts ++ contents) c.deref-2.ensures.value)
    (edges_stated c.deref-5.result.now (edges_of files.graph))
    (ap (λ (g : GraphModel). edges_stated c.deref-5.result.now (edges_of g)) c.in-Ok.ensures.of
    ∙ ap (λ counts. edges_stated counts (edges_of known.graph))
    (c.deref-5.ensures.value ∙ c.in_ok-counts.ensures ∙ ap (map (λ (d : EdgeDiscovery). d.stated_inputs))
    c.deref-3.ensures.value))
    c.in-Ok-page_of.page
    (c.in-Ok-page_of.ensures.page entries (subst (λ (g : GraphModel). IsGraphOf g entries)
    (sym c.in-Ok.ensures.of) graph))
    answer.output.items answer.looks answer.warnings.items
    (c.in_ok-keys_answer.ensures.output entries graph
    ∙ ap (keys_text known entries (keys_model c.args.options.now)) c.deref-7.ensures.value)
    c.in_ok-keys_answer.ensures.looks
    (c.in_ok-keys_answer.ensures.warnings entries graph
    ∙ ap (λ rest. mark_line rest ++ caveat_text known entries) c.as_ref-rest.ensures.value)
