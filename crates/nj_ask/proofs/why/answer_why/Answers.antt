use Rattle.std.proofs.Common.{◌≡◌, Ok, ap, subst, ◌∙◌}
use Rattle.nj_graph.specs.Graph.{edges_of}
use Rattle.nj_graph.specs.Handles.{file_of}
use Rattle.nj_graph.specs.Targets.{picked}
use Rattle.nj_questions.specs.Questions.{why_model}
use Rattle.nj_ask.specs.Answers.{AnswersWhy, HasDepfileFault, kinds_asked, needed_from}
use Rattle.nj_ask.specs.Inside.AnswerParts.{SaysErr}
use Rattle.nj_ask.specs.Inside.ChainTexts.{IsChainText}
use Rattle.nj_ask.specs.declared.status.Status.TheVariants.{Fault}
use Rattle.nj_ask.proofs.PartLemmas.{gives-refused}
use Rattle.nj_ask.proofs.WhyLemmas.{why-no-depfile, why-no-end, why-no-start, why-told}
use Rattle.nj_ask.proofs.why.answer_why.Goals as goal

pub returns-in-Err : goal.returns-in-Err
returns-in-Err c entries graph =
    let known = c.args.known.now in
    let options = why_model c.args.options.now in
    let edges = edges_of known.graph in
    gives-refused (AnswersWhy known entries options) Fault (SaysErr (picked edges c.as_bytes.result.now))
    (λ line says. why-no-start known entries options line
    (subst (λ word. SaysErr (picked edges word) line) c.as_bytes.ensures.value says))
    c.in-Err.failure c.in-Err.ensures.refused

pub returns-in-Err-file_asked : goal.returns-in-Err-file_asked
returns-in-Err-file_asked c entries graph =
    let known = c.args.known.now in
    let options = why_model c.args.options.now in
    let edges = edges_of known.graph in
    let from = file_of c.in-Ok.from in
    let start = subst (λ word. picked edges word ≡ Ok from.path) c.as_bytes.ensures.value
    c.in-Ok.ensures.picked in
    gives-refused (AnswersWhy known entries options) Fault (SaysErr (picked edges c.as_bytes-2.result.now))
    (λ line says. why-no-end known entries options from.path start line
    (subst (λ word. SaysErr (picked edges word) line) c.as_bytes-2.ensures.value says))
    c.in-Err-file_asked.failure c.in-Err-file_asked.ensures.refused

pub returns-in-Err-check_needed : goal.returns-in-Err-check_needed
returns-in-Err-check_needed c entries graph =
    let known = c.args.known.now in
    let options = why_model c.args.options.now in
    let edges = edges_of known.graph in
    let from = file_of c.in-Ok.from in
    let to = file_of c.in-Ok-file_asked.to in
    let start = subst (λ word. picked edges word ≡ Ok from.path) c.as_bytes.ensures.value
    c.in-Ok.ensures.picked in
    let end = subst (λ word. picked edges word ≡ Ok to.path) c.as_bytes-2.ensures.value
    c.in-Ok-file_asked.ensures.picked in
    gives-refused (AnswersWhy known entries options) Fault
    (HasDepfileFault known (needed_from known.graph options.validations from.path))
    (λ line has. why-no-depfile known entries options from.path to.path start end line has)
    c.in-Err-check_needed.failure c.in-Err-check_needed.ensures.refused

pub returns : goal.returns
returns c entries graph =
    let known = c.args.known.now in
    let options = why_model c.args.options.now in
    let edges = edges_of known.graph in
    let from = file_of c.in-Ok.from in
    let to = file_of c.in-Ok-file_asked.to in
    let start = subst (λ word. picked edges word ≡ Ok from.path) c.as_bytes.ensures.value
    c.in-Ok.ensures.picked in
    let end = subst (λ word. picked edges word ≡ Ok to.path) c.as_bytes-2.ensures.value
    c.in-Ok-file_asked.ensures.picked in
    let answer = c.chain_answer.result in
    why-told known entries options from to c.in-Ok.ensures.of start end c.in-Ok-check_needed.ensures.clear
    c.in_ok-chain.chain
    (subst (λ ds. IsChainText from to (kinds_asked options) ds c.in_ok-chain.chain) c.deref.ensures.value
    c.in_ok-chain.ensures) answer.output.items answer.looks answer.warnings.items
    c.chain_answer.ensures.output c.chain_answer.ensures.looks
    (ap (λ v. v.items) c.chain_answer.ensures.warnings ∙ c.in_ok-warnings.ensures entries graph)
