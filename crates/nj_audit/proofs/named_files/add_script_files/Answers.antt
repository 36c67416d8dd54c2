use Rattle.std.proofs.Common.{◌≡◌, ◌∷◌, ◌++◌, map, sym, ap, ◌∙◌, append_assoc}
use Rattle.nj_graph.specs.Handles.{file_of}
use Rattle.nj_audit.specs.ReadWords.{after_token, first_word, names_after, names_of_token}
use Rattle.nj_audit.specs.ShellWords.{tokens_of}
use Rattle.nj_audit.specs.Inside.Tokens.{token_model}
use Rattle.nj_audit.proofs.FileLemmas.{files_at, files-append}
use Rattle.nj_audit.proofs.named_files.add_script_files.Goals as goal

pub tokens-init : goal.tokens-init
tokens-init c = ap (λ next. map file_of c.args.files.now.items ++ files_at c.args.graph.now c.args.folder.now
    (names_after names_of_token next (tokens_of c.args.script.now)))
    (c.first-next.ensures ∙ ap first_word (c.in_ok-extend_from_slice.ensures.items
    ∙ ap (λ t. t ++ c.args.within.now) c.new-start.ensures.items))

pub tokens-preserved : goal.tokens-preserved
tokens-preserved c =
    let g = c.args.graph.now in
    let folder = c.args.folder.now in
    let word = c.take_token.new.word.items in
    let taken = c.in-Some.taken in
    let token = token_model word taken.0 in
    let after = tokens_of taken.1.now in
    let old = map file_of c.tokens.files.items in
    let next = c.tokens.next in
    let first : tokens_of c.tokens.rest.now ≡ token ∷ after = rw c.in-Some.is at c.in_ok-taken.ensures in
    ap (λ fs. fs ++ files_at g folder (names_after names_of_token c.add_script_token.new.next after))
    c.in_ok-add_script_token.ensures.files
    ∙ ap (λ n. (old ++ files_at g folder (names_of_token next (token_model c.deref.result.now taken.0)))
    ++ files_at g folder (names_after names_of_token n after)) c.in_ok-add_script_token.ensures.next
    ∙ ap (λ w. (old ++ files_at g folder (names_of_token next (token_model w taken.0)))
    ++ files_at g folder (names_after names_of_token (after_token next (token_model w taken.0)) after))
    c.deref.ensures.value
    ∙ append_assoc old (files_at g folder (names_of_token next token))
    (files_at g folder (names_after names_of_token (after_token next token) after))
    ∙ ap (λ fs. old ++ fs)
    (sym (files-append g folder (names_of_token next token)
    (names_after names_of_token (after_token next token) after)))
    ∙ ap (λ ts. old ++ files_at g folder (names_after names_of_token next ts)) (sym first)
    ∙ c.tokens.invariant
