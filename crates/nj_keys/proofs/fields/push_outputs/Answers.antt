use Rattle.std.proofs.lemmas.Result.{on_ok_weaker}
use Rattle.nj_graph.specs.Edges.{outputs_of}
use Rattle.nj_graph.specs.Handles.{edge_of, paths_of}
use Rattle.nj_keys.proofs.InputLemmas.{outputs-added}
use Rattle.nj_keys.proofs.fields.push_outputs.Goals as goal

pub returns : goal.returns
returns c =
    let edge = edge_of c.args.edge in
    on_ok_weaker c.push_paths.result (outputs-added c.args.bases.now edge.graph (outputs_of (paths_of edge))
    c.args.text.now.items c.push_number.new.text.items c.push_paths.new.text.items c.outputs-outputs.result
    c.len.result c.outputs-outputs.ensures c.len.ensures c.in_ok-push_number.ensures)
    c.push_paths.ensures
