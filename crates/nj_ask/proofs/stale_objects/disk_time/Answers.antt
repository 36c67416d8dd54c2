use Rattle.std.proofs.Common.{◌<◌, Some, length, option_map, ap, sym, subst, ◌∙◌}
use Rattle.std.specs.Prelude.{IfSome}
use Rattle.nj_graph.specs.declared.FileNo.{FileNo}
use Rattle.nj_names.specs.Files.{path_at}
use Rattle.nj_stale.specs.Numbered.{time_of}
use Rattle.nj_ask.proofs.ObjectLemmas.{time-at}
use Rattle.nj_ask.proofs.stale_objects.disk_time.Goals as goal

pub returns-in-Some : goal.returns-in-Some
returns-in-Some c =
    let g = c.args.graph.now in
    let times = c.args.build.now.times.items in
    let file = c.in-Some.file in
    let below = subst (λ o. IfSome o (λ (f : FileNo). f.0 < length g.files)) c.in-Some.is c.requires.file in
    ap Some (c.time_as_input.ensures ∙ sym (time-at g.files times file.0
    c.file_count-file_count.ensures.each_path_once c.requires.counts.time_count below))
    ∙ ap (λ o. option_map (time_of g.files times) (option_map (path_at g.files) o)) (sym c.in-Some.is)
