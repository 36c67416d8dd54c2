use Rattle.std.proofs.Common.{◌<◌, Some, length, option_map, ap, sym, subst, ◌∙◌}
use Rattle.std.specs.Prelude.{IfSome}
use Rattle.nj_graph.specs.declared.EdgeNo.{EdgeNo}
use Rattle.nj_graph.specs.declared.FileNo.{FileNo}
use Rattle.nj_names.specs.Files.{path_at}
use Rattle.nj_stale.specs.Inside.Held.{time_by}
use Rattle.nj_ask.proofs.ObjectLemmas.{input-time, maker-within, time-at}
use Rattle.nj_ask.proofs.stale_objects.input_time.Goals as goal

pub returns-in-Some : goal.returns-in-Some
returns-in-Some c = λ facts lines s judged of.
    let g = c.args.graph.now in
    let build = c.args.build.now in
    let times = build.times.items in
    let lent = build.lent.items in
    let file = c.in-Some.file in
    let maker = option_map (λ (edge : EdgeNo). edge.0) c.maker.result in
    let below = subst (λ o. IfSome o (λ (f : FileNo). f.0 < length g.files)) c.in-Some.is c.requires.file in
    ap Some (c.time_as_input.ensures
    ∙ ap (λ t. time_by maker t lent) (sym (time-at g.files times file.0
    c.file_count-file_count.ensures.each_path_once c.requires.counts.time_count below))
    ∙ input-time g facts times lines lent s of (judged.lent_are s of) (path_at g.files file) maker
    (sym c.maker.ensures.maker)
    (maker-within (length g.edges) c.maker.result c.maker.ensures.known))
    ∙ ap (λ o. option_map s.time (option_map (path_at g.files) o)) (sym c.in-Some.is)
