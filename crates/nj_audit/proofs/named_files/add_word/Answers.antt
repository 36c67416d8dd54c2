use Rattle.std.proofs.Common.{◌++◌, cond, map, sym, ap, ◌∙◌}
use Rattle.nj_graph.specs.Handles.{file_of}
use Rattle.nj_audit.specs.ReadWords.{names_of_next, script_names}
use Rattle.nj_audit.proofs.FileLemmas.{files_at}
use Rattle.nj_audit.proofs.named_files.add_word.Goals as goal

pub returns-then-not-is_script-clause-files : goal.returns-then-not-is_script-clause-files
returns-then-not-is_script-clause-files c =
    let old = map file_of c.args.files.now.items in
    let next = c.args.next.now in
    let word = c.args.word.now in
    c.in_ok-add_next.ensures.files
    ∙ ap (λ b. old ++ files_at c.args.graph.now c.args.folder.now
    (cond b (script_names next.folder word) (names_of_next next word)))
    (sym (sym c.is_script.ensures ∙ c.if-not-is_script.true))

pub returns-clause-files : goal.returns-clause-files
returns-clause-files c =
    let old = map file_of c.args.files.now.items in
    let next = c.args.next.now in
    let word = c.args.word.now in
    c.in_ok-add_script_files.ensures
    ∙ ap (λ within. old ++ files_at c.args.graph.now c.args.folder.now (script_names within word))
    c.folder.ensures
    ∙ ap (λ b. old ++ files_at c.args.graph.now c.args.folder.now
    (cond b (script_names next.folder word) (names_of_next next word)))
    (sym (sym c.is_script.ensures ∙ c.if-not-is_script.false))
