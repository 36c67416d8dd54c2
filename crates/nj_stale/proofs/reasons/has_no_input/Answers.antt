use Rattle.std.proofs.Common.{ap, ◌==◌}
use Rattle.nj_edges.specs.Edges.{edge_at, inputs_of}
use Rattle.nj_stale.proofs.FileLemmas.{length_files}
use Rattle.nj_stale.proofs.reasons.has_no_input.Goals as goal

pub returns : goal.returns
returns c =
    ap (λ n. n == 0) (length_files c.args.graph.now.files c.inputs.result.now
    (inputs_of (edge_at c.args.graph.now.edges c.args.edge.0)) c.inputs.ensures.files)
