use Rattle.std.proofs.Common.{[], ◌++◌, map, sym, subst, ◌∙◌}
use Rattle.std.specs.List.{cons_option}
use Rattle.nj_graph.specs.Handles.{file_of}
use Rattle.nj_audit.specs.NamedPaths.{seen_from}
use Rattle.nj_audit.specs.WordNames.{after_sign, names_in_parts, names_in_text}
use Rattle.nj_audit.specs.Inside.FilesNamed.{AddsFiles}
use Rattle.nj_audit.proofs.FileLemmas.{adds-then, no-signs, with-signs}
use Rattle.nj_audit.proofs.named_files.add_files_in_word.Goals as goal

pub returns-then-not-has_sign : goal.returns-then-not-has_sign
returns-then-not-has_sign c =
    let g = c.args.graph.now in
    let folder = c.args.folder.now in
    let first = map file_of c.args.files.now.items in
    let last = map file_of c.add_files_in_text.new.files.items in
    subst (λ ns. AddsFiles g folder ns first last)
    (sym (no-signs c.args.within.now c.args.word.now (sym c.has_sign.ensures ∙ c.if-not-has_sign.true)))
    c.in_ok-add_files_in_text.ensures

pub returns : goal.returns
returns c =
    let g = c.args.graph.now in
    let folder = c.args.folder.now in
    let word = c.args.word.now in
    let within = c.args.within.now in
    let seen = map (seen_from within) in
    let first = map file_of c.args.files.now.items in
    let second = map file_of c.add_files_in_text.new.files.items in
    let third = map file_of c.add_file.new.files.items in
    let last = map file_of c.add_files_in_parts.new.files.items in
    subst (λ ns. AddsFiles g folder ns first last)
    (sym (with-signs within word (sym c.has_sign.ensures ∙ c.if-not-has_sign.false)))
    (adds-then g folder (seen (names_in_text word))
    (seen (cons_option (after_sign word) []) ++ seen (names_in_parts word)) first second last
    c.in_ok-add_files_in_text.ensures
    (adds-then g folder (seen (cons_option (after_sign word) [])) (seen (names_in_parts word)) second third
    last
    (subst (λ o. AddsFiles g folder (seen (cons_option o [])) second third) c.after_sign.ensures
    c.in_ok-add_file.ensures)
    c.in_ok-add_files_in_parts.ensures))
