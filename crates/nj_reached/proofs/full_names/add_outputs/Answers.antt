use Rattle.std.proofs.Common.{subst, ap, ◌∙◌}
use Rattle.std.proofs.lemmas.Result.{on_ok_weaker}
use Rattle.nj_changes.specs.Tables.{HasMore}
use Rattle.nj_graph.specs.Edges.{outputs_of}
use Rattle.nj_graph.specs.Handles.{edge_of, paths_of}
use Rattle.nj_reached.specs.Inside.Handles.{full_paths_in}
use Rattle.nj_reached.proofs.HandleLemmas.{files-full}
use Rattle.nj_reached.proofs.full_names.add_outputs.Goals as goal

pub returns : goal.returns
returns c =
    let edge = edge_of c.args.edge in
    on_ok_weaker c.add_files.result
    (λ has. subst (λ more. HasMore c.args.names.now more c.add_files.new.names)
    (ap (full_paths_in c.args.folder.now) c.outputs.ensures
    ∙ files-full c.args.folder.now edge.graph (outputs_of (paths_of edge))) has)
    c.add_files.ensures
