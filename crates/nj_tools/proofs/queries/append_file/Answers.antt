use Rattle.std.proofs.lemmas.Result.{on_ok_weaker}
use Rattle.nj_graph.specs.Handles.{file_of}
use Rattle.nj_tools.proofs.QueryLemmas.{query_is}
use Rattle.nj_tools.proofs.TextLemmas.{added, added_is}
use Rattle.nj_tools.proofs.queries.append_file.Goals as goal

pub returns : goal.returns
returns c entries graph =
    let base = c.args.text.now.items in
    let file = file_of c.args.file in
    on_ok_weaker c.append_validated.result (λ is.
    added_is base _ _ (added base _ _ (added base _ _ c.in_ok-append_line.ensures
    (c.in_ok-append_maker.ensures entries graph))
    c.in_ok-append_outputs.ensures) is
    (query_is entries file.graph file.path c.path.result.now c.users.result c.validation_users.result
    c.path.ensures c.users.ensures c.validation_users.ensures)) c.append_validated.ensures
