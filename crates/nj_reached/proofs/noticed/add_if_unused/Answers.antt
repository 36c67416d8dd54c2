use Rattle.std.proofs.Common.{◌≡◌, ◌∷◌, [], true, false, ap, subst, sym, ◌∙◌}
use Rattle.std.proofs.lemmas.Result.{on_ok_weaker}
use Rattle.nj_text.specs.Calls.{is_empty}
use Rattle.nj_changes.specs.FullPaths.{full_path}
use Rattle.nj_changes.specs.Tables.{HasMore}
use Rattle.nj_graph.specs.Edges.{users_of}
use Rattle.nj_graph.specs.Graph.{edges_of}
use Rattle.nj_graph.specs.Handles.{file_of}
use Rattle.nj_reached.specs.Inside.Handles.{is_unused}
use Rattle.nj_reached.proofs.NoticedLemmas.{empty-edges, one-unused}
use Rattle.nj_reached.proofs.TableLemmas.{has-none}
use Rattle.nj_reached.proofs.noticed.add_if_unused.Goals as goal

pub returns-then-is_unused : goal.returns-then-is_unused
returns-then-is_unused c =
    let folder = c.args.folder.now in
    let file = file_of c.args.file in
    let unused : is_unused file ≡ true =
    sym (c.is_empty-is_unused.ensures ∙ ap is_empty c.users.ensures
    ∙ empty-edges file.graph (users_of (edges_of file.graph) file.path)) ∙ c.if-is_unused.true in
    on_ok_weaker c.add_path.result
    (λ has. subst (λ more. HasMore c.args.names.now more c.add_path.new.names)
    (ap (λ path. full_path folder path ∷ []) c.path.ensures ∙ sym (one-unused folder file true unused)) has)
    c.add_path.ensures

pub returns : goal.returns
returns c =
    let folder = c.args.folder.now in
    let file = file_of c.args.file in
    let used : is_unused file ≡ false =
    sym (c.is_empty-is_unused.ensures ∙ ap is_empty c.users.ensures
    ∙ empty-edges file.graph (users_of (edges_of file.graph) file.path)) ∙ c.if-is_unused.false in
    subst (λ more. HasMore c.args.names.now more c.args.names.now)
    (sym (one-unused folder file false used)) (has-none c.args.names.now)
