use Rattle.std.proofs.Common.{◌∷◌, [], ◌++◌, ap, subst}
use Rattle.nj_names.specs.NameTables.{is_among}
use Rattle.nj_changes.specs.FullPaths.{full_path}
use Rattle.nj_changes.specs.Tables.{HasMore}
use Rattle.nj_graph.specs.Handles.{file_of}
use Rattle.nj_reached.specs.Inside.Handles.{full_paths_in}
use Rattle.nj_reached.proofs.TableLemmas.{all-added, step}
use Rattle.nj_reached.proofs.full_names.add_files.Goals as goal

pub files-init : goal.files-init
files-init c name =
    ap (λ files. is_among (c.args.names.now ++ full_paths_in c.args.folder.now files) name)
    c.into_iter-file-iterator.ensures.into_iter_gives

pub files-preserved : goal.files-preserved
files-preserved c =
    let folder = c.args.folder.now in
    step c.files.names c.add_path.new.names (full_path folder (file_of c.in-Some.file).path ∷ [])
    (full_paths_in folder c.files.file-iterator) (full_paths_in folder c.next.new.self)
    (c.args.names.now ++ full_paths_in folder c.args.files)
    (ap (full_paths_in folder) c.in-Some.ensures.steps)
    (subst (λ path. HasMore c.files.names (full_path folder path ∷ []) c.add_path.new.names) c.path.ensures
    c.in_ok-add_path.ensures)
    c.files.invariant

pub returns : goal.returns
returns c =
    all-added c.args.names.now c.files.names (full_paths_in c.args.folder.now c.args.files)
    (full_paths_in c.args.folder.now c.files.file-iterator)
    (ap (full_paths_in c.args.folder.now) c.in-None.ensures.steps.0) c.files.invariant
