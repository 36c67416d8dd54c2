use Rattle.std.proofs.Common.{sym, ap, ◌∙◌}
use Rattle.std.proofs.lemmas.Result.{on_ok_weaker}
use Rattle.nj_graph.specs.Edges.{edge_at}
use Rattle.nj_graph.specs.Graph.{edges_of}
use Rattle.nj_graph.specs.Handles.{edge_of, files_in}
use Rattle.nj_keys.specs.Keys.{edges_stated}
use Rattle.nj_keys.specs.Inside.Keeping.{kept_key}
use Rattle.nj_keys.proofs.InputLemmas.{inputs-added}
use Rattle.nj_keys.proofs.StatedLemmas.{explicit-stated, order_only-stated}
use Rattle.nj_keys.proofs.fields.push_inputs.Goals as goal

pub returns : goal.returns
returns c =
    let edge = edge_of c.args.edge in
    let edges = edges_of edge.graph in
    let counts = c.args.counts.now in
    on_ok_weaker c.push_files-3.result (inputs-added c.args.bases.now edge.graph (kept_key c.args.keys.now)
    (edge_at (edges_stated counts edges) edge.number) c.args.text.now.items c.push_files.new.text.items
    c.push_files-2.new.text.items c.push_files-3.new.text.items
    c.explicit_inputs.result c.stated_inputs.result c.order_only_inputs.result
    (c.explicit_inputs.ensures ∙ ap (files_in edge.graph) (sym (explicit-stated counts edges edge.number)))
    c.stated_inputs.ensures
    (c.order_only_inputs.ensures ∙ ap (files_in edge.graph)
    (sym (order_only-stated counts edges edge.number)))
    c.in_ok-push_files.ensures c.in_ok-push_files-2.ensures)
    c.push_files-3.ensures
