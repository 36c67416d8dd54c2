use Rattle.std.proofs.Common.{[], ◌++◌, cond, map, append-nil, sym, ap, ◌∙◌}
use Rattle.nj_graph.specs.Handles.{file_of}
use Rattle.nj_audit.specs.ReadWords.{names_in_word}
use Rattle.nj_audit.proofs.FileLemmas.{files_at}
use Rattle.nj_audit.proofs.named_files.add_next.Goals as goal

pub returns-then-not-is_read-clause-files : goal.returns-then-not-is_read-clause-files
returns-then-not-is_read-clause-files c =
    let old = map file_of c.args.files.now.items in
    let names = names_in_word c.args.next.now.folder c.args.word.now in
    sym (append-nil old)
    ∙ ap (λ b. old ++ files_at c.args.graph.now c.args.folder.now (cond b names []))
    (sym (sym c.is_read.ensures ∙ c.if-not-is_read.true))

pub returns-clause-files : goal.returns-clause-files
returns-clause-files c =
    let old = map file_of c.args.files.now.items in
    let names = names_in_word c.args.next.now.folder c.args.word.now in
    c.in_ok-add_files_in_word.ensures
    ∙ ap (λ within. old ++ files_at c.args.graph.now c.args.folder.now (names_in_word within c.args.word.now))
    c.folder.ensures
    ∙ ap (λ b. old ++ files_at c.args.graph.now c.args.folder.now (cond b names []))
    (sym (sym c.is_read.ensures ∙ c.if-not-is_read.false))
