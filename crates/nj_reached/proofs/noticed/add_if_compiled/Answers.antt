use Rattle.std.proofs.Common.{◌≡◌, ◌∷◌, [], true, false, ap, subst, sym, ◌∙◌}
use Rattle.std.proofs.lemmas.Result.{on_ok_weaker}
use Rattle.nj_changes.specs.FullPaths.{full_path}
use Rattle.nj_changes.specs.Tables.{HasMore}
use Rattle.nj_graph.specs.Graph.{edges_of}
use Rattle.nj_graph.specs.Handles.{file_of}
use Rattle.nj_reached.specs.GraphChanges.{is_compiled}
use Rattle.nj_reached.proofs.NoticedLemmas.{one-compiled}
use Rattle.nj_reached.proofs.TableLemmas.{has-none}
use Rattle.nj_reached.proofs.noticed.add_if_compiled.Goals as goal

pub returns-then-is_compiled : goal.returns-then-is_compiled
returns-then-is_compiled c entries graph =
    let folder = c.args.folder.now in
    let file = file_of c.args.file in
    let is : is_compiled entries (edges_of file.graph) file.path ≡ true =
    sym (c.in_ok-is_compiled.ensures entries graph) ∙ c.if-is_compiled.true in
    on_ok_weaker c.add_path.result
    (λ has. subst (λ more. HasMore c.args.names.now more c.add_path.new.names)
    (ap (λ path. full_path folder path ∷ []) c.path.ensures
    ∙ sym (one-compiled folder entries (edges_of file.graph) file.path true is)) has)
    c.add_path.ensures

pub returns : goal.returns
returns c entries graph =
    let file = file_of c.args.file in
    let is : is_compiled entries (edges_of file.graph) file.path ≡ false =
    sym (c.in_ok-is_compiled.ensures entries graph) ∙ c.if-is_compiled.false in
    subst (λ more. HasMore c.args.names.now more c.args.names.now)
    (sym (one-compiled c.args.folder.now entries (edges_of file.graph) file.path false is))
    (has-none c.args.names.now)
