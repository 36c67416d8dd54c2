use Rattle.std.proofs.Common.{subst, take}
use Rattle.nj_names.specs.Files.{AreFiles}
use Rattle.nj_edges.specs.Edges.{counted_inputs_of, edge_at}
use Rattle.nj_edges.specs.Joining.{JoinTable}
use Rattle.nj_edges.proofs.GraphLemmas.{counted-are, files-numbers}
use Rattle.nj_edges.proofs.dyndep_edges.JoiningEdges.stated_counted_inputs.Goals as goal

pub returns-clause-files : goal.returns-clause-files
returns-clause-files c =
    let stated = c.edge_files-files.result in
    rw c.first.ensures
    (subst (λ (t : JoinTable). AreFiles t.files (take stated.kinds.implicit_inputs stated.inputs.now)
    (counted_inputs_of (edge_at t.stated c.args.edge.0))) c.self.view_is
    (counted-are _ _ _ _ _ _ _ c.edge_files-files.ensures))

pub returns-clause-known : goal.returns-clause-known
returns-clause-known c = files-numbers c.args.self.now.files c.first.result.now
    (counted_inputs_of (edge_at c.args.self.now.stated c.args.edge.0)) (returns-clause-files c)
