use Rattle.std.proofs.Common.{take, subst, sym}
use Rattle.nj_edges.specs.Edges.{edge_at, counted_inputs_of}
use Rattle.nj_names.specs.Files.{AreFiles}
use Rattle.nj_stale.proofs.FileLemmas.{front_files}
use Rattle.nj_stale.proofs.files.counted_inputs.Goals as goal

pub returns-clause-files : goal.returns-clause-files
returns-clause-files c =
    let edge = edge_at c.args.graph.now.edges c.args.edge.0 in
    subst (λ n. AreFiles c.args.graph.now.files (take n c.inputs.result.now) (counted_inputs_of edge))
    (sym c.counted_count.ensures)
    (front_files c.args.graph.now.files c.inputs.result.now (counted_inputs_of edge) edge.order_only_inputs
    c.inputs.ensures.files)
