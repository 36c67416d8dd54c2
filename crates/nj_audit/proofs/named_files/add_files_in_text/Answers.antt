use Rattle.std.proofs.Common.{[], ◌∷◌, map, subst}
use Rattle.std.specs.List.{cons_option}
use Rattle.nj_graph.specs.Handles.{file_of}
use Rattle.nj_audit.specs.NamedPaths.{seen_from}
use Rattle.nj_audit.specs.WordNames.{attached_to}
use Rattle.nj_audit.specs.Inside.FilesNamed.{AddsFiles}
use Rattle.nj_audit.proofs.FileLemmas.{adds-then}
use Rattle.nj_audit.proofs.named_files.add_files_in_text.Goals as goal

pub returns : goal.returns
returns c =
    let g = c.args.graph.now in
    let folder = c.args.folder.now in
    let text = c.args.text.now in
    let within = c.args.within.now in
    let seen = map (seen_from within) in
    let first = map file_of c.args.files.now.items in
    let second = map file_of c.add_file.new.files.items in
    let last = map file_of c.add_file-2.new.files.items in
    adds-then g folder (seen (text ∷ [])) (seen (cons_option (attached_to text) [])) first second last
    c.in_ok-add_file.ensures
    (subst (λ o. AddsFiles g folder (seen (cons_option o [])) second last) c.attached_to.ensures
    c.in_ok-add_file-2.ensures)
