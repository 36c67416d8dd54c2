use Rattle.std.proofs.Common.{ap, sym}
use Rattle.nj_names.specs.NameTables.{is_among}
use Rattle.nj_edges.specs.Edges.{edge_at, outputs_of}
use Rattle.nj_edges.proofs.ChangeLemmas.{files-paths}
use Rattle.nj_discovered.proofs.outputs.is_output.Goals as goal

pub outputs-init : goal.outputs-init
outputs-init c =
    ap (λ ps. is_among ps c.args.path.now)
    (sym (files-paths c.args.graph.now.files c.outputs-output-items.result.now
    (outputs_of (edge_at c.args.graph.now.edges c.args.edge.0)) c.outputs-output-items.ensures.files))
