use Rattle.std.proofs.Common.{[], ◌∷◌, ◌++◌, bytes_eq, option_copied, map, sym, ap, subst, ◌∙◌}
use Rattle.std.specs.Prelude.{position}
use Rattle.std.specs.List.{cons_option}
use Rattle.nj_graph.specs.Handles.{GraphFile, file_of}
use Rattle.nj_audit.specs.Inside.FilesNamed.{AddsFiles}
use Rattle.nj_audit.specs.NamedPaths.{seen_from}
use Rattle.nj_audit.specs.UnorderedFiles.{is_meant}
use Rattle.nj_audit.proofs.FileLemmas.{adds-meant, adds-unmeant}
use Rattle.nj_audit.proofs.ListLemmas.{map-append}
use Rattle.nj_audit.proofs.named_files.add_file.Goals as goal

pub returns-in_ok-push : goal.returns-in_ok-push
returns-in_ok-push c =
    let g = c.args.graph.now in
    let folder = c.args.folder.now in
    let name = c.in-Some.name.now in
    let within = c.args.within.now in
    let seen = seen_from within name in
    let old = map file_of c.args.files.now.items in
    let new = map file_of c.push.new.self.items in
    subst (λ o. AddsFiles g folder (map (seen_from within) (cons_option (option_copied o) [])) old new)
    (sym c.in-Some.is)
    (adds-meant g folder seen c.in-Some-2.path.now c.in-Some-file_named.number.0 old new
    (sym c.in_ok-path.ensures ∙ ap option_copied c.in-Some-2.is)
    (ap (λ e. position (bytes_eq c.in-Some-2.path.now) e.files) (sym c.deref.ensures)
    ∙ sym c.in-Some-file_named.ensures.index)
    (ap (λ (f : GraphFile). is_meant f.graph name f.path) (sym c.file_at-file.ensures)
    ∙ sym c.is_meant.ensures ∙ c.if-is_meant.true)
    (ap (map file_of) c.in_ok-push.ensures.items
    ∙ map-append file_of c.args.files.now.items (c.file_at-file.result ∷ [])
    ∙ ap (λ (f : GraphFile). old ++ f ∷ []) c.file_at-file.ensures))

pub returns-else-is_meant : goal.returns-else-is_meant
returns-else-is_meant c =
    let g = c.args.graph.now in
    let folder = c.args.folder.now in
    let name = c.in-Some.name.now in
    let within = c.args.within.now in
    let seen = seen_from within name in
    let old = map file_of c.args.files.now.items in
    subst (λ o. AddsFiles g folder (map (seen_from within) (cons_option (option_copied o) [])) old old)
    (sym c.in-Some.is)
    (adds-unmeant g folder seen c.in-Some-2.path.now c.in-Some-file_named.number.0 old
    (sym c.in_ok-path.ensures ∙ ap option_copied c.in-Some-2.is)
    (ap (λ e. position (bytes_eq c.in-Some-2.path.now) e.files) (sym c.deref.ensures)
    ∙ sym c.in-Some-file_named.ensures.index)
    (ap (λ (f : GraphFile). is_meant f.graph name f.path) (sym c.file_at-file.ensures)
    ∙ sym c.is_meant.ensures ∙ c.if-is_meant.false))
