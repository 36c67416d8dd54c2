use Rattle.std.proofs.Common.{◌≡◌, ◌∙◌, ◌++◌, [], ap, map, sym}
use Rattle.std.specs.Prelude.{slice_get, string_bytes}
use Rattle.std.proofs.lemmas.List.{append-nil}
use Rattle.nj_graph.specs.Graph.{edges_of}
use Rattle.nj_keys.specs.Keys.{edges_stated}
use Rattle.nj_tools.specs.declared.EdgeDiscovery.{EdgeDiscovery}
use Rattle.nj_questions.specs.Questions.{keys_model}
use Rattle.nj_ask.specs.Answers.{AnswersAllKeys, keys_text}
use Rattle.nj_ask.specs.Endings.{program_line}
use Rattle.nj_ask.specs.declared.status.Status.TheVariants.{Fault}
use Rattle.nj_ask.proofs.KeysLemmas.{keys-all, keys-bad-depfile, nothing-first}
use Rattle.nj_ask.proofs.PartLemmas.{gives-refused}
use Rattle.nj_ask.proofs.keys.answer_all_keys.Goals as goal

pub returns-in-Some : goal.returns-in-Some
returns-in-Some c entries graph =
    let known = c.args.known.now in
    let options = keys_model c.args.options.now in
    let contents = map (λ content. content.items) c.args.contents.now in
    let fault = c.in-Some.fault.now in
    gives-refused (AnswersAllKeys known entries options contents) Fault
    (λ line. line ≡ program_line (c.deref-in-Some.result.now ++ []))
    (λ line is. keys-bad-depfile known entries options contents [] fault
    (sym (c.in-Some.ensures.value ∙ ap (λ fs. slice_get fs 0) c.deref.ensures.value)) line
    (is ∙ ap program_line (append-nil c.deref-in-Some.result.now ∙ c.deref-in-Some.ensures.value)))
    c.in_words.result c.in_words.ensures

pub returns : goal.returns
returns c entries graph =
    let known = c.args.known.now in
    let contents = map (λ content. content.items) c.args.contents.now in
    let answer = c.in_ok-keys_answer.field-0 in
    keys-all known entries (keys_model c.args.options.now) contents []
    (nothing-first known.faults.items
    (sym (c.in_default.ensures.value ∙ ap (λ fs. slice_get fs 0) c.deref.ensures.value)))
    c.args.bases.now c.requires
    (map (λ text. text.now) c.deref-4.result.now)
    (ap (map (λ text. text.now)) c.deref-4.ensures.value ∙ c.in_ok-additions.ensures
    ∙ ap (λ texts. map string_bytes texts ++ contents) c.deref-2.ensures.value)
    (edges_stated c.deref-5.result.now (edges_of known.graph))
    (ap (λ counts. edges_stated counts (edges_of known.graph))
    (c.deref-5.ensures.value ∙ c.in_ok-counts.ensures ∙ ap (map (λ (d : EdgeDiscovery). d.stated_inputs))
    c.deref-3.ensures.value))
    c.in_ok-keys.keys.items (c.in_ok-keys.ensures.keys entries graph) answer.output.items answer.looks
    answer.warnings.items
    (c.in_ok-keys_answer.ensures.output entries graph
    ∙ ap (keys_text known entries (keys_model c.args.options.now)) c.deref-7.ensures.value)
    c.in_ok-keys_answer.ensures.looks (c.in_ok-keys_answer.ensures.warnings entries graph)
