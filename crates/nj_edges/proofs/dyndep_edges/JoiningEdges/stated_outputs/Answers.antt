use Rattle.std.proofs.Common.{subst}
use Rattle.nj_names.specs.Files.{AreFiles}
use Rattle.nj_edges.specs.Edges.{edge_at, outputs_of}
use Rattle.nj_edges.specs.Joining.{JoinTable}
use Rattle.nj_edges.proofs.GraphLemmas.{outputs-are}
use Rattle.nj_edges.proofs.dyndep_edges.JoiningEdges.stated_outputs.Goals as goal

pub returns : goal.returns
returns c =
    subst (λ (t : JoinTable). AreFiles t.files c.edge_files.result.outputs.now
    (outputs_of (edge_at t.stated c.args.edge.0))) c.self.view_is
    (outputs-are _ _ _ _ _ _ _ c.edge_files.ensures)
