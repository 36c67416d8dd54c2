use Rattle.std.proofs.Common.{◌≡◌, ◌⊎◌, Ok, false, true, map, refl, subst}
use Rattle.std.specs.Prelude.{string_bytes}
use Rattle.nj_graph.specs.Files.{path_at}
use Rattle.nj_graph.specs.Graph.{GraphModel, files_of}
use Rattle.nj_questions.specs.Questions.{draw_model}
use Rattle.nj_ask.specs.Answers.{AnswersDraw, HasDepfileFault, IsClear, asked_targets}
use Rattle.nj_ask.specs.Inside.AnswerParts.{SaysErr}
use Rattle.nj_ask.specs.declared.status.Status.TheVariants.{Fault}
use Rattle.nj_ask.proofs.DrawLemmas.{draw-drawn, draw-no-depfile, draw-no-target}
use Rattle.nj_ask.proofs.PartLemmas.{gives-refused}
use Rattle.nj_ask.proofs.draw.answer_draw.Goals as goal

pub returns-in-Err : goal.returns-in-Err
returns-in-Err c entries graph =
    let known = c.args.known.now in
    let options = draw_model c.args.options.now in
    gives-refused (AnswersDraw known entries options) Fault
    (SaysErr (asked_targets known.graph (map string_bytes c.deref.result.now)))
    (λ line says. draw-no-target known entries options line
    (subst (λ words. SaysErr (asked_targets known.graph (map string_bytes words)) line) c.deref.ensures.value
    says))
    c.in-Err.failure c.in-Err.ensures.refused

pub returns-in-Err-check_drawn : goal.returns-in-Err-check_drawn
returns-in-Err-check_drawn c entries graph =
    let known = c.args.known.now in
    let options = draw_model c.args.options.now in
    let files = c.in-Ok.files in
    let numbers = c.numbers.result.now in
    let are = subst (λ words. asked_targets known.graph (map string_bytes words) ≡ Ok files.paths)
    c.deref.ensures.value c.in-Ok.ensures.targets in
    let paths = subst (λ (g : GraphModel). map (path_at (files_of g)) numbers ≡ files.paths)
    c.in-Ok.ensures.of
    c.numbers.ensures.paths in
    gives-refused (AnswersDraw known entries options) Fault
    (λ line. (options.affected ≡ false)
    × HasDepfileFault known (map (path_at (files_of known.graph)) numbers) line)
    (λ line has. draw-no-depfile known entries options files.paths are line
    (has.0, subst (λ ps. HasDepfileFault known ps line) paths has.1))
    c.in-Err-check_drawn.failure c.in-Err-check_drawn.ensures.refused

pub returns : goal.returns
returns c entries graph =
    let known = c.args.known.now in
    let options = draw_model c.args.options.now in
    let files = c.in-Ok.files in
    let numbers = c.numbers.result.now in
    let are = subst (λ words. asked_targets known.graph (map string_bytes words) ≡ Ok files.paths)
    c.deref.ensures.value c.in-Ok.ensures.targets in
    let paths = subst (λ (g : GraphModel). map (path_at (files_of g)) numbers ≡ files.paths)
    c.in-Ok.ensures.of
    c.numbers.ensures.paths in
    draw-drawn known entries options files.paths are
    (subst (λ ps. (options.affected ≡ true) ⊎ IsClear known ps) paths c.in-Ok-check_drawn.ensures.clear)
    c.in_ok-output.output.items c.in_ok-output.ensures false refl c.in_ok-warnings.warnings.items
    (c.in_ok-warnings.ensures entries graph)
