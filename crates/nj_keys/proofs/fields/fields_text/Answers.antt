use Rattle.nj_graph.specs.Graph.{edges_of}
use Rattle.nj_graph.specs.Handles.{edge_of}
use Rattle.nj_keys.specs.Inside.Keeping.{kept_key}
use Rattle.nj_keys.proofs.StatedLemmas.{text-stated}
use Rattle.nj_keys.proofs.fields.fields_text.Goals as goal

pub returns : goal.returns
returns c entries graph =
    let edge = edge_of c.args.edge in
    text-stated c.args.bases.now c.args.counts.now (edges_of edge.graph) entries (kept_key c.args.keys.now)
    edge.number c.new-text.result.items c.push_command.new.text.items c.push_response.new.text.items
    c.push_outputs.new.text.items c.push_inputs.new.text.items c.new-text.ensures.items
    (c.in_ok-push_command.ensures entries graph) (c.in_ok-push_response.ensures entries graph)
    c.in_ok-push_outputs.ensures c.in_ok-push_inputs.ensures
