use Rattle.std.proofs.Common.{◌++◌, ap, ◌∙◌}
use Rattle.std.specs.List.{flat_map}
use Rattle.nj_names.specs.NameTables.{is_among}
use Rattle.nj_graph.specs.Graph.{edges_of}
use Rattle.nj_graph.specs.Handles.{edge_of, paths_of}
use Rattle.nj_reached.specs.GraphChanges.{outputs_made}
use Rattle.nj_reached.specs.GraphChanges.{full_paths}
use Rattle.nj_reached.specs.Inside.Handles.{full_outputs_made}
use Rattle.nj_reached.proofs.HandleLemmas.{all-made}
use Rattle.nj_reached.proofs.TableLemmas.{all-added, step}
use Rattle.nj_reached.proofs.full_names.add_all_made.Goals as goal

pub edges-init : goal.edges-init
edges-init c name =
    ap (λ more. is_among (c.args.names.now ++ more) name)
    (ap (full_outputs_made c.args.folder.now)
    (c.into_iter-edge-iterator.ensures.into_iter_gives ∙ c.edges-edge-items.ensures)
    ∙ all-made c.args.folder.now c.args.graph.now)

pub edges-preserved : goal.edges-preserved
edges-preserved c =
    let folder = c.args.folder.now in
    step c.edges.names c.add_made.new.names
    (full_paths folder (outputs_made (paths_of (edge_of c.in-Some.edge))))
    (full_outputs_made folder c.edges.edge-iterator) (full_outputs_made folder c.next.new.self)
    (c.args.names.now ++ full_paths folder (flat_map outputs_made (edges_of c.args.graph.now)))
    (ap (full_outputs_made folder) c.in-Some.ensures.steps) c.in_ok-add_made.ensures c.edges.invariant

pub returns : goal.returns
returns c =
    let folder = c.args.folder.now in
    all-added c.args.names.now c.edges.names
    (full_paths folder (flat_map outputs_made (edges_of c.args.graph.now)))
    (full_outputs_made folder c.edges.edge-iterator) (ap (full_outputs_made folder) c.in-None.ensures.steps.0)
    c.edges.invariant
