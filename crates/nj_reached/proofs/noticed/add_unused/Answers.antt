use Rattle.std.proofs.Common.{◌∷◌, [], ◌++◌, ap}
use Rattle.nj_names.specs.NameTables.{is_among}
use Rattle.nj_graph.specs.Handles.{file_of}
use Rattle.nj_reached.specs.Inside.Handles.{full_unused}
use Rattle.nj_reached.proofs.NoticedLemmas.{unused-first}
use Rattle.nj_reached.proofs.TableLemmas.{all-added, step}
use Rattle.nj_reached.proofs.noticed.add_unused.Goals as goal

pub files-init : goal.files-init
files-init c name =
    ap (λ files. is_among (c.args.names.now ++ full_unused c.args.folder.now files) name)
    c.into_iter-file-iterator.ensures.into_iter_gives

pub files-preserved : goal.files-preserved
files-preserved c =
    let folder = c.args.folder.now in
    let file = file_of c.in-Some.file in
    step c.files.names c.add_if_unused.new.names (full_unused folder (file ∷ []))
    (full_unused folder c.files.file-iterator) (full_unused folder c.next.new.self)
    (c.args.names.now ++ full_unused folder c.args.files)
    (unused-first folder file c.files.file-iterator c.next.new.self c.in-Some.ensures.steps)
    c.in_ok-add_if_unused.ensures c.files.invariant

pub returns : goal.returns
returns c =
    all-added c.args.names.now c.files.names (full_unused c.args.folder.now c.args.files)
    (full_unused c.args.folder.now c.files.file-iterator)
    (ap (full_unused c.args.folder.now) c.in-None.ensures.steps.0) c.files.invariant
