use Rattle.std.proofs.Common.{◌∷◌, ◌++◌, [], cond, sym, ap, ◌∙◌, append_assoc}
use Rattle.nj_audit.proofs.named_paths.push_below.Goals as goal

pub returns-then-not-stands_alone : goal.returns-then-not-stands_alone
returns-then-not-stands_alone c =
    let out = c.args.out.now.items in
    let folder = c.args.folder.now in
    let path = c.args.path.now in
    c.in_ok-extend_from_slice-2.ensures.items
    ∙ ap (λ t. t ++ path) (c.in_ok-push.ensures.items
    ∙ ap (λ t. t ++ 47 ∷ []) c.in_ok-extend_from_slice.ensures.items)
    ∙ append_assoc (out ++ folder) (47 ∷ []) path ∙ append_assoc out folder (47 ∷ path)
    ∙ ap (λ b. out ++ cond b path (folder ++ 47 ∷ path))
    (sym c.if-not-stands_alone.true ∙ c.stands_alone.ensures)

pub returns : goal.returns
returns c =
    let out = c.args.out.now.items in
    let folder = c.args.folder.now in
    let path = c.args.path.now in
    c.in_ok-extend_from_slice-3.ensures.items
    ∙ ap (λ b. out ++ cond b path (folder ++ 47 ∷ path))
    (sym c.if-not-stands_alone.false ∙ c.stands_alone.ensures)
