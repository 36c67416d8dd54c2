use Rattle.std.proofs.lemmas.Result.{on_ok_weaker}
use Rattle.nj_graph.specs.Handles.{edge_of, paths_of}
use Rattle.nj_tools.proofs.QueryLemmas.{kinds_are}
use Rattle.nj_tools.proofs.TextLemmas.{added, added_is}
use Rattle.nj_tools.proofs.queries.append_inputs.Goals as goal

pub returns : goal.returns
returns c = on_ok_weaker c.append_paths-3.result (λ is.
    let base = c.args.text.now.items in
    added_is base _ _ (added base _ _ c.in_ok-append_paths.ensures c.in_ok-append_paths-2.ensures) is
    (kinds_are c.args.edge.graph.now (paths_of (edge_of c.args.edge)) c.explicit_inputs.result
    c.implicit_inputs.result c.order_only_inputs.result c.explicit_inputs.ensures c.implicit_inputs.ensures
    c.order_only_inputs.ensures)) c.append_paths-3.ensures
