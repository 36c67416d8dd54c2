use Rattle.std.proofs.Common.{◌<◌, ◌++◌, All, length, map, sym, ap, subst, ◌∙◌}
use Rattle.std.proofs.lemmas.List.{map-append}
use Rattle.std.proofs.lemmas.List.Elements.{All-append}
use Rattle.nj_graph.specs.declared.FileNo.{FileNo}
use Rattle.nj_graph.specs.Graph.{files_of}
use Rattle.nj_ask.proofs.shape.uncertain_files.Goals as goal

pub returns-clause-files : goal.returns-clause-files
returns-clause-files c = λ entries graph.
    let found = c.in_ok-files.files.items in
    ap (map (λ (f : FileNo). f.0)) c.in_ok-extend_from_slice.ensures.items
    ∙ map-append (λ (f : FileNo). f.0) found c.args.changed.now
    ∙ ap (λ ns. ns ++ map (λ (f : FileNo). f.0) c.args.changed.now)
    (c.in_ok-files.ensures.files entries graph)

pub returns-clause-known : goal.returns-clause-known
returns-clause-known c =
    let Below = λ (f : FileNo). f.0 < length (files_of c.args.graph.now) in
    subst (All Below) (sym c.in_ok-extend_from_slice.ensures.items)
    (All-append Below c.in_ok-files.files.items c.args.changed.now c.in_ok-files.ensures.known c.requires)
